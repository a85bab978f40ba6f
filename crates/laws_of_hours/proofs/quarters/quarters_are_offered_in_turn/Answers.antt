use Rattle.laws_of_hours.proofs.InTurn.{offered_in_turn}
use Rattle.laws_of_hours.proofs.quarters.quarters_are_offered_in_turn.Goals as goal

pub returns : goal.returns
returns c = offered_in_turn
