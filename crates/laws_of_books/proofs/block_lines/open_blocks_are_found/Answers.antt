use Rattle.laws_of_books.proofs.WholeBlockBooks.{block-found}
use Rattle.laws_of_books.proofs.block_lines.open_blocks_are_found.Goals as goal

pub returns : goal.returns
returns c = λ setup events name fit. block-found setup events fit name
