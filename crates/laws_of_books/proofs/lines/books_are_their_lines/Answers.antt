use Rattle.laws_of_books.proofs.PartLines.{line_of-book, parts_of-book}
use Rattle.laws_of_books.proofs.lines.books_are_their_lines.Goals as goal

pub returns : goal.returns
returns c = λ events hour. (parts_of-book events hour, λ part side known. line_of-book events hour part side known)
