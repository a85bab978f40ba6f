use Rattle.std.proofs.Common.{◌∙◌, ap}
use Rattle.block_book.specs.Book.{block_of}
use Rattle.desk_refusals.proofs.Books.{block-found}
use Rattle.desk_refusals.proofs.found.open_block.Goals as goal

pub returns : goal.returns
returns c =
    let board = c.args.hour.now.board in
    c.get.ensures ∙ ap (λ b. block_of b c.args.number) c.blocks-2.ensures
    ∙ block-found board.grid board.hour board.events c.events.ensures.board.stands c.args.number
