use Rattle.laws_of_books.proofs.FoundOrders.{hour-book}
use Rattle.laws_of_books.proofs.lines.hours_have_their_books.Goals as goal

pub returns : goal.returns
returns c = λ setup events hour fit. hour-book setup events fit hour
