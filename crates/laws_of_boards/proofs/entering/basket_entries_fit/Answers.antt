use Rattle.laws_of_boards.proofs.Admitting.{baskets}
use Rattle.laws_of_boards.proofs.entering.basket_entries_fit.Goals as goal

pub returns : goal.returns
returns c = baskets
