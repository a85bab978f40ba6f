use Rattle.laws_of_books.proofs.WholeBlockBooks.{lines-are}
use Rattle.laws_of_books.proofs.block_lines.block_books_are_their_lines.Goals as goal

pub returns : goal.returns
returns c = λ setup events first last side fit. lines-are setup events fit first last side
