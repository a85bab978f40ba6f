use Rattle.laws_of_books.proofs.BlocksElsewhere.{book-elsewhere}
use Rattle.laws_of_books.proofs.block_changes.other_events_leave_the_blocks.Goals as goal

pub returns : goal.returns
returns c = λ setup events event first fit fits elsewhere. book-elsewhere setup events fit first event fits elsewhere
