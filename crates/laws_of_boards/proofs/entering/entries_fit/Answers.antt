use Rattle.laws_of_boards.proofs.Admitting.{orders}
use Rattle.laws_of_boards.proofs.entering.entries_fit.Goals as goal

pub returns : goal.returns
returns c = orders
