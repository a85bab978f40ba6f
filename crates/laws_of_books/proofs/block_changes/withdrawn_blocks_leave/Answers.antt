use Rattle.laws_of_books.proofs.EnteredAndWithdrawn.{book-withdrawn}
use Rattle.laws_of_books.proofs.block_changes.withdrawn_blocks_leave.Goals as goal

pub returns : goal.returns
returns c = λ setup events name lots fit fits. book-withdrawn setup events fit name lots fits
