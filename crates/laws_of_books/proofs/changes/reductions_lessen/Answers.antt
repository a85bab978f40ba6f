use Rattle.laws_of_books.proofs.TakenOff.{book-reduced}
use Rattle.laws_of_books.proofs.changes.reductions_lessen.Goals as goal

pub returns : goal.returns
returns c = λ setup events name by fit fits. book-reduced setup events fit name by fits
