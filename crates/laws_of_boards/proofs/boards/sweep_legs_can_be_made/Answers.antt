use Rattle.laws_of_boards.proofs.Legs.{sweep_legs}
use Rattle.laws_of_boards.proofs.boards.sweep_legs_can_be_made.Goals as goal

pub returns : goal.returns
returns c = sweep_legs
