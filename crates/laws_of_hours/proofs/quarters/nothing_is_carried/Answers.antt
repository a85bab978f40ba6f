use Rattle.laws_of_hours.proofs.InTurn.{carried_none}
use Rattle.laws_of_hours.proofs.quarters.nothing_is_carried.Goals as goal

pub returns : goal.returns
returns c = carried_none
