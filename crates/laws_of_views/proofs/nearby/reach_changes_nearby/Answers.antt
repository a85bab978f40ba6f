use Rattle.laws_of_views.proofs.Near.{reach_nearby}
use Rattle.laws_of_views.proofs.nearby.reach_changes_nearby.Goals as goal

pub returns : goal.returns
returns c = reach_nearby
