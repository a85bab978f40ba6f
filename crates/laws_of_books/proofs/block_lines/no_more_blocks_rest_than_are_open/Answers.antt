use Rattle.laws_of_books.proofs.WholeBlockBooks.{few-in_book}
use Rattle.laws_of_books.proofs.block_lines.no_more_blocks_rest_than_are_open.Goals as goal

pub returns : goal.returns
returns c = λ setup events first fit. few-in_book setup events fit first
