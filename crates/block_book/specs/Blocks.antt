-- Blocks that rest: how two of them stand in priority.
use Rattle.std.specs.Prelude.{ℕ}
use Rattle.std.specs.Ordering.{nat_cmp, ordering_then}
use Rattle.std.specs.declared.cmp.Ordering.{Ordering}
use Rattle.order_kinds.specs.declared.side.Side.{Side}
use Rattle.order_kinds.specs.Side.{price_cmp}
use Rattle.block_book.specs.declared.block.RestingBlock.{RestingBlock}

-- the number by which a block is found
abbrev pub number_of : RestingBlock → ℕ
number_of block = block.number

-- priority on a side: the better price, then the earlier moment, then the smaller number
abbrev pub block_cmp : Side → (one other : RestingBlock) → Ordering
block_cmp side one other =
    ordering_then (price_cmp side one.price other.price)
    (ordering_then (nat_cmp one.moment other.moment) (nat_cmp one.number other.number))

-- the smaller number
abbrev pub number_cmp : (one other : RestingBlock) → Ordering
number_cmp one other = nat_cmp one.number other.number
