use Rattle.std.proofs.Common.{◌≡◌, take}
use Rattle.market_model.specs.Orders as orders
use Rattle.plain_orders.proofs.sums.left.Given as goal

abbrev pub invariant-loop-event : goal.invariant-loop-event
invariant-loop-event l = l.left ≡ orders.left (take l.event-index l.event-items) l.name
