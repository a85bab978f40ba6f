use Rattle.laws_of_books.proofs.TakenOff.{book-withdrawn}
use Rattle.laws_of_books.proofs.changes.withdrawals_take_out.Goals as goal

pub returns : goal.returns
returns c = λ setup events name lots fit fits. book-withdrawn setup events fit name lots fits
