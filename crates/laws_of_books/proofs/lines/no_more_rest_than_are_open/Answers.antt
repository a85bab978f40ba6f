use Rattle.laws_of_books.proofs.WholeBooks.{few-in_book}
use Rattle.laws_of_books.proofs.lines.no_more_rest_than_are_open.Goals as goal

pub returns : goal.returns
returns c = λ setup events hour fit. few-in_book setup events fit hour
