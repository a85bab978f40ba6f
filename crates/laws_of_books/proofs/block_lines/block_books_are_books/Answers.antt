use Rattle.laws_of_books.proofs.WholeBlockBooks.{book-is_book}
use Rattle.laws_of_books.proofs.block_lines.block_books_are_books.Goals as goal

pub returns : goal.returns
returns c = λ setup events first fit few. book-is_book setup events fit first few
