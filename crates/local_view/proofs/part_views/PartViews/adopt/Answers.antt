use Rattle.std.proofs.Common.{◌∙◌}
use Rattle.local_view.proofs.part_views.PartViews.adopt.Goals as goal

pub returns-clause-sized : goal.returns-clause-sized
returns-clause-sized c = λ zones sized. (c.adopt.ensures.size ∙ sized.0, c.adopt-2.ensures.size ∙ sized.1)
