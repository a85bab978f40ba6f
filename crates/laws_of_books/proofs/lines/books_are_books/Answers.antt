use Rattle.laws_of_books.proofs.WholeBooks.{book-is_book}
use Rattle.laws_of_books.proofs.lines.books_are_books.Goals as goal

pub returns : goal.returns
returns c = λ setup events hour fit few. book-is_book setup events fit hour few
