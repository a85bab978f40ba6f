-- The order of prices on a side is a total order.
use Rattle.std.specs.Cmp.{IsTotalOrder}
use Rattle.std.proofs.lemmas.Cmp.{on_total, back_total, int_cmp_total}
use Rattle.order_kinds.specs.Side.{price_cmp}
use Rattle.order_kinds.specs.declared.price.Price.{Price}
use Rattle.order_kinds.specs.declared.side.Side.{Side}
use Rattle.order_kinds.specs.declared.side.Side.TheVariants.{Buy, Sell}

-- on each side the order of prices is total
pub price_cmp_total : (side : Side) → IsTotalOrder (price_cmp side)
price_cmp_total Buy = back_total (on_total (λ (price : Price). price.0) int_cmp_total)
price_cmp_total Sell = on_total (λ (price : Price). price.0) int_cmp_total
