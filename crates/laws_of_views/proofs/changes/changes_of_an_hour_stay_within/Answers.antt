use Rattle.laws_of_views.proofs.Differing.{hour_changes_within}
use Rattle.laws_of_views.proofs.changes.changes_of_an_hour_stay_within.Goals as goal

pub returns : goal.returns
returns c = hour_changes_within
