-- Priority on a side is an order in which any two blocks compare, and so is that of their numbers.
use Rattle.std.specs.Cmp.{IsTotalOrder}
use Rattle.std.proofs.lemmas.Cmp.{nat_cmp_total, on_total, then_total}
use Rattle.order_kinds.specs.declared.side.Side.{Side}
use Rattle.order_kinds.proofs.PriceOrder.{price_cmp_total}
use Rattle.block_book.specs.declared.block.RestingBlock.{RestingBlock}
use Rattle.block_book.specs.Blocks.{block_cmp, number_cmp}

pub block_total : (side : Side) → IsTotalOrder (block_cmp side)
block_total side =
    then_total (on_total (λ (b : RestingBlock). b.price) (price_cmp_total side))
    (then_total (on_total (λ (b : RestingBlock). b.moment) nat_cmp_total) (on_total (λ (b : RestingBlock). b.number) nat_cmp_total))

pub number_total : IsTotalOrder number_cmp
number_total = on_total (λ (b : RestingBlock). b.number) nat_cmp_total
