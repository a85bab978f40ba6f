use Rattle.std.proofs.Common.{◌∙◌}
use Rattle.plain_market.proofs.Baskets.{can-at, filled-at, refused-at}
use Rattle.plain_market.proofs.basket.first_unfilled.Goals as goal

pub unfilled_alone-requires-clause-can : goal.unfilled_alone-requires-clause-can
unfilled_alone-requires-clause-can c =
    can-at c.args.grid.now c.args.events.now c.loop-order.events c.args.caller c.args.orders.now c.loop-order.order-index _ c.requires.can
    c.loop-order.invariant.kept c.loop-order-test.true

pub returns-in-Some-clause-refusal : goal.returns-in-Some-clause-refusal
returns-in-Some-clause-refusal c =
    refused-at c.args.grid.now c.args.events.now c.loop-order.events c.args.caller c.args.orders.now c.loop-order.order-index _ c.in_ok-refusal.field-0
    c.loop-order.invariant.kept c.loop-order-test.true c.in_ok-refusal.ensures.refusal c.in-Some.refusal c.in-Some.is c.loop-order.invariant.filled

pub loop-order-preserved : goal.loop-order-preserved
loop-order-preserved c = record {
  kept = c.in_ok-refusal.ensures.kept ∙ c.loop-order.invariant.kept;
  filled = filled-at c.args.grid.now c.args.events.now c.loop-order.events c.args.caller c.args.orders.now c.loop-order.order-index _ c.in_ok-refusal.field-0
      c.loop-order.invariant.kept c.loop-order-test.true c.in_ok-refusal.ensures.refusal c.in_default.is c.loop-order.invariant.filled;
}
