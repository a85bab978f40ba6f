use Rattle.laws_of_boards.proofs.Passing.{pass}
use Rattle.laws_of_boards.proofs.takers.board_takers_pass_for_good.Goals as goal

pub returns : goal.returns
returns c = pass
