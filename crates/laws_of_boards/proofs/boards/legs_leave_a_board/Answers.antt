use Rattle.laws_of_boards.proofs.Legs.{leaves}
use Rattle.laws_of_boards.proofs.boards.legs_leave_a_board.Goals as goal

pub returns : goal.returns
returns c = leaves
