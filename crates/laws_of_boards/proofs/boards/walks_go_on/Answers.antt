use Rattle.laws_of_boards.proofs.Walks.{go_on}
use Rattle.laws_of_boards.proofs.boards.walks_go_on.Goals as goal

pub returns : goal.returns
returns c = go_on
