use Rattle.laws_of_books.proofs.Partners.{make_deals}
use Rattle.laws_of_books.proofs.block_deals.partners_make_deals.Goals as goal

pub returns : goal.returns
returns c = make_deals
