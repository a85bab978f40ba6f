use Rattle.laws_of_boards.proofs.Worse.{first_buys}
use Rattle.laws_of_boards.proofs.fronts.first_buys_decide.Goals as goal

pub returns : goal.returns
returns c = first_buys
