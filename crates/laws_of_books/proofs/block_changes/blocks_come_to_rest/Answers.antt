use Rattle.laws_of_books.proofs.EnteredAndWithdrawn.{book-entered}
use Rattle.laws_of_books.proofs.block_changes.blocks_come_to_rest.Goals as goal

pub returns : goal.returns
returns c = λ setup events name caller order fit fits. book-entered setup events fit name caller order fits
