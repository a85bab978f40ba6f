use Rattle.std.proofs.Common.{◌∙◌, ap, sym}
use Rattle.std.proofs.lemmas.List.{take_all}
use Rattle.plain_orders.specs.Listed as listed
use Rattle.plain_orders.proofs.Best.{best-next}
use Rattle.plain_orders.proofs.lines.best_price.Goals as goal

pub loop-order-preserved : goal.loop-order-preserved
loop-order-preserved c =
    c.best_with-best.ensures ∙ ap (listed.best_with c.args.contract c.args.side c.order-item.result) c.loop-order.invariant
    ∙ sym (best-next c.args.contract c.args.side c.args.orders.now c.loop-order.order-index c.order-item.result c.loop-order-test.true c.order-item.is)

pub returns : goal.returns
returns c =
    c.loop-order.invariant
    ∙ ap (λ orders. listed.best_price orders c.args.contract c.args.side) (take_all c.loop-order.order-index c.args.orders.now c.loop-order-test.false)
