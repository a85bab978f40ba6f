use Rattle.laws_of_views.proofs.Differing.{widen}
use Rattle.laws_of_views.proofs.changes.differences_widen.Goals as goal

pub returns : goal.returns
returns c = widen
