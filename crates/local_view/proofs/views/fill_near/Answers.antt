use Rattle.local_view.proofs.Parts.{kept_set}
use Rattle.local_view.proofs.views.fill_near.Goals as goal

pub returns-clause-kept : goal.returns-clause-kept
returns-clause-kept g c = kept_set c.args.parts.now c.args.line.part c.refresh_near.new.self c.index-parts-line.result c.refresh_near.ensures.kept
