use Rattle.laws_of_books.proofs.WholeBlockBooks.{hour-book}
use Rattle.laws_of_books.proofs.block_lines.hours_have_their_block_books.Goals as goal

pub returns : goal.returns
returns c = λ setup events first fit. hour-book setup events fit first
