use Rattle.laws_of_books.proofs.WholeBlockBooks.{book-begins}
use Rattle.laws_of_books.proofs.block_lines.block_books_begin_empty.Goals as goal

pub returns : goal.returns
returns c = book-begins
