use Rattle.std.proofs.Common.{ap, refl, subst, sym}
use Rattle.block_book.specs.Book.{IsBook}
use Rattle.block_book.specs.Inside.{book_in}
use Rattle.block_book.proofs.Told.{told-book}
use Rattle.block_book.proofs.book.BlockBook.copy.Goals as goal

pub returns-clause-sound : goal.returns-clause-sound
returns-clause-sound c = subst IsBook (sym (ap book_in c.in_ok-copy.ensures.same)) (told-book c.self.inside.blocks c.self.invariant.keyed (book_in c.self.inside.blocks) refl)
