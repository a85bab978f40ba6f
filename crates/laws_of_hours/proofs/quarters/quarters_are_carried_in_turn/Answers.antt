use Rattle.laws_of_hours.proofs.InTurn.{carried_in_turn}
use Rattle.laws_of_hours.proofs.quarters.quarters_are_carried_in_turn.Goals as goal

pub returns : goal.returns
returns c = carried_in_turn
