use Rattle.laws_of_books.proofs.DealsInBooks.{maker_out}
use Rattle.laws_of_books.proofs.block_deals.entering_deals_take_the_maker_out.Goals as goal

pub returns : goal.returns
returns c = maker_out
