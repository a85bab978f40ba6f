-- Priority on a side is an order in which any two orders compare.
use Rattle.std.specs.Cmp.{IsTotalOrder}
use Rattle.std.proofs.lemmas.Cmp.{nat_cmp_total, on_total, then_total}
use Rattle.order_kinds.specs.declared.side.Side.{Side}
use Rattle.order_kinds.proofs.PriceOrder.{price_cmp_total}
use Rattle.contract_book.specs.declared.held.Held.{Held}
use Rattle.contract_book.specs.declared.resting.Resting.{Resting}
use Rattle.contract_book.specs.Inside.{held_cmp}
use Rattle.contract_book.specs.Resting.{resting_cmp}

pub resting_total : (side : Side) → IsTotalOrder (resting_cmp side)
resting_total side =
    then_total (on_total (λ (o : Resting). o.price) (price_cmp_total side))
    (then_total (on_total (λ (o : Resting). o.moment) nat_cmp_total) (on_total (λ (o : Resting). o.number) nat_cmp_total))

pub held_total : (side : Side) → IsTotalOrder (held_cmp side)
held_total side = on_total (λ (held : Held). held.order) (resting_total side)
