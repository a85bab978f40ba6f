use Rattle.laws_of_books.proofs.LegsInBooks.{book-filled-alone}
use Rattle.laws_of_books.proofs.changes.legs_fill_the_maker.Goals as goal

pub returns : goal.returns
returns c = λ setup events contract leg fit fits. book-filled-alone setup events fit contract leg fits
