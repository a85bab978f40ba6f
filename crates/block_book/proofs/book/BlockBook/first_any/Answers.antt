use Rattle.std.proofs.Common.{◌∙◌, ap}
use Rattle.block_book.specs.Book.{first_of}
use Rattle.block_book.proofs.Told.{told-period}
use Rattle.block_book.proofs.book.BlockBook.first_any.Goals as goal

pub returns : goal.returns
returns c = c.first.ensures ∙ ap first_of (told-period c.self.inside.blocks c.self.invariant.keyed c.args.self.now c.self.view_is c.self.inside.by_period.grain c.self.invariant.of_period c.args.last c.args.side)
