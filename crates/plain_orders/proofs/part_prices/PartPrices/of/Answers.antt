use Rattle.std.proofs.Common.{◌∙◌, ◌+◌, ap, length, length-set, subst, sym, take}
use Rattle.order_kinds.specs.declared.order.Order.{Order}
use Rattle.plain_orders.specs.Prices.{AreBestPrices}
use Rattle.plain_orders.proofs.Prices.{prices-next, prices-stay}
use Rattle.plain_orders.proofs.part_prices.PartPrices.of.Goals as goal
use Rattle.plain_orders.proofs.part_prices.PartPrices.of.Goals.{then-is_part_of, else-is_part_of}

pub loop-order-preserved : goal.loop-order-preserved
loop-order-preserved c = elim c.if-is_part_of.branch [
  | then-is_part_of w ↦ record {
    size = ap length w.prices-is ∙ length-set c.loop-order.prices w.number_of-number.result w.with.result ∙ c.loop-order.invariant.size;
    best = subst (AreBestPrices (take (c.loop-order.order-index + 1) c.args.orders.now) c.args.hour) (sym w.prices-is)
        (prices-next c.args.hour c.args.orders.now c.loop-order.order-index c.order-item.result c.loop-order-test.true c.order-item.is c.loop-order.prices c.order.result.contract
        w.number_of-number.result w.with.result (ap (λ (o : Order). o.contract) c.order.ensures) (sym c.is_part_of.ensures ∙ w.if-is_part_of.true)
        w.number_of-number.ensures.number w.with.ensures c.loop-order.invariant.size c.loop-order.invariant.best);
  }
  | else-is_part_of w ↦ record {
    size = ap length w.prices-is ∙ c.loop-order.invariant.size;
    best = subst (AreBestPrices (take (c.loop-order.order-index + 1) c.args.orders.now) c.args.hour) (sym w.prices-is)
        (prices-stay c.args.hour c.args.orders.now c.loop-order.order-index c.order-item.result c.loop-order-test.true c.order-item.is c.loop-order.prices c.order.result.contract
        (ap (λ (o : Order). o.contract) c.order.ensures) (sym c.is_part_of.ensures ∙ w.if-is_part_of.false) c.loop-order.invariant.best);
  }
]
