use Rattle.laws_of_books.proofs.FoundOrders.{book-begins}
use Rattle.laws_of_books.proofs.lines.books_begin_empty.Goals as goal

pub returns : goal.returns
returns c = λ hour. book-begins hour
