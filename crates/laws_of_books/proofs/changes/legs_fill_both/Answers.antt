use Rattle.laws_of_books.proofs.LegsInBooks.{book-filled}
use Rattle.laws_of_books.proofs.changes.legs_fill_both.Goals as goal

pub returns : goal.returns
returns c = λ setup events contract leg fit fits. book-filled setup events fit contract leg fits
