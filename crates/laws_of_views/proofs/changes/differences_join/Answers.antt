use Rattle.laws_of_views.proofs.Differing.{join}
use Rattle.laws_of_views.proofs.changes.differences_join.Goals as goal

pub returns : goal.returns
returns c = join
