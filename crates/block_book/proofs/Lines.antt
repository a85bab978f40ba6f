-- What each call makes of the lines of a book, said of the book alone.
use Rattle.std.proofs.Common.{ℕ, List, filter}
use Rattle.order_kinds.specs.declared.side.Side.{Side}
use Rattle.zone_graph.specs.InOrder.{IsStrictlyInOrder}
use Rattle.block_book.specs.declared.block.RestingBlock.{RestingBlock}
use Rattle.block_book.specs.Blocks.{block_cmp}
use Rattle.block_book.specs.Book.{IsBook, is_of, line_of}
use Rattle.block_book.specs.Priority.{block_total}
use Rattle.block_book.proofs.Lists.{ascending-differ, block-ties, differ-filter, strict-in_order}

module _ (book : List RestingBlock) (sound : IsBook book) where
  -- each line is strictly in priority
  pub line-strict : (last : ℕ) (side : Side) → IsStrictlyInOrder (block_cmp side) (line_of book last side)
  line-strict last side =
      strict-in_order (block_cmp side) (block_total side) (block-ties side) (filter (is_of last side) book) (differ-filter (is_of last side) book (ascending-differ book sound.ascending))
