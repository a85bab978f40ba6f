use Rattle.std.proofs.Common.{◌≡◌, take}
use Rattle.plain_orders.specs.Listed as listed
use Rattle.plain_orders.proofs.lines.best_price.Given as goal

-- the best price of the orders so far
abbrev pub invariant-loop-order : goal.invariant-loop-order
invariant-loop-order l = l.best ≡ listed.best_price (take l.order-index l.orders) l.contract l.side
