use Rattle.laws_of_books.proofs.EnteredAndWithdrawn.{number-free}
use Rattle.laws_of_books.proofs.block_changes.entering_numbers_are_free.Goals as goal

pub returns : goal.returns
returns c = λ setup events name caller order fit fits. number-free setup events fit name caller order fits
