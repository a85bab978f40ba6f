use Rattle.laws_of_views.proofs.Differing.{changes_within}
use Rattle.laws_of_views.proofs.changes.changes_stay_within.Goals as goal

pub returns : goal.returns
returns c = changes_within
