use Rattle.laws_of_boards.proofs.Legs.{next_legs}
use Rattle.laws_of_boards.proofs.boards.next_legs_can_be_made.Goals as goal

pub returns : goal.returns
returns c = next_legs
