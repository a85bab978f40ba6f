use Rattle.laws_of_books.proofs.DealsInBooks.{both_out}
use Rattle.laws_of_books.proofs.block_deals.deals_take_both_out.Goals as goal

pub returns : goal.returns
returns c = both_out
