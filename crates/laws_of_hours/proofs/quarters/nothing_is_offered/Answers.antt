use Rattle.laws_of_hours.proofs.InTurn.{offered_none}
use Rattle.laws_of_hours.proofs.quarters.nothing_is_offered.Goals as goal

pub returns : goal.returns
returns c = offered_none
