use Rattle.std.proofs.Common.{◌∙◌, sym}
use Rattle.block_book.proofs.Told.{told-book, told-count}
use Rattle.block_book.proofs.book.BlockBook.len.Goals as goal

pub returns-clause-count : goal.returns-clause-count
returns-clause-count c = c.len.ensures.count ∙ sym (told-count c.self.inside.blocks c.self.invariant.keyed c.args.self.now c.self.view_is)

pub returns-clause-sound : goal.returns-clause-sound
returns-clause-sound c = told-book c.self.inside.blocks c.self.invariant.keyed c.args.self.now c.self.view_is
