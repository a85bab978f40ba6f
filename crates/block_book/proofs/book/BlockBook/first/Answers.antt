use Rattle.std.proofs.Common.{◌∙◌, ap}
use Rattle.block_book.specs.Book.{first_of}
use Rattle.block_book.proofs.Told.{told-quantity}
use Rattle.block_book.proofs.book.BlockBook.first.Goals as goal

pub returns : goal.returns
returns c = c.first.ensures ∙ ap first_of (told-quantity c.self.inside.blocks c.self.invariant.keyed c.args.self.now c.self.view_is c.self.inside.by_quantity.grain c.self.invariant.of_quantity c.args.last c.args.quantity c.args.side)
