use Rattle.std.proofs.Common.{refl}
use Rattle.plain_market.proofs.Baskets.{can-at, entered-at, few-at, none-entered}
use Rattle.plain_market.proofs.basket.enter_all.Goals as goal

pub loop-order-init : goal.loop-order-init
loop-order-init c = none-entered c.args.grid.now c.args.caller c.args.orders.now c.args.events.now c.requires.can c.requires.basket c.requires.few

pub enter_unrefused-requires-clause-can : goal.enter_unrefused-requires-clause-can
enter_unrefused-requires-clause-can c =
    can-at c.args.grid.now c.loop-order.events c.loop-order.events c.args.caller c.args.orders.now c.loop-order.order-index _ c.loop-order.invariant.can refl
    c.loop-order-test.true

pub enter_unrefused-requires-clause-few : goal.enter_unrefused-requires-clause-few
enter_unrefused-requires-clause-few c =
    few-at c.args.grid.now c.args.caller c.args.orders.now c.loop-order.order-index _ c.args.events.now c.loop-order.events c.loop-order-test.true c.loop-order.invariant

pub loop-order-preserved : goal.loop-order-preserved
loop-order-preserved c =
    entered-at c.args.grid.now c.args.caller c.args.orders.now c.loop-order.order-index _ c.args.events.now c.loop-order.events c.enter_unrefused.new.events
    c.zones-zones.ensures.grid.is_graph c.loop-order-test.true c.loop-order.invariant c.in_ok-enter_unrefused.ensures.ok
