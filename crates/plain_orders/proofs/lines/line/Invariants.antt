use Rattle.std.proofs.Common.{◌≡◌, filter, take}
use Rattle.plain_orders.specs.Listed as listed
use Rattle.plain_orders.proofs.lines.line.Given as goal

abbrev pub invariant-loop-order : goal.invariant-loop-order
invariant-loop-order l = l.line.items ≡ filter (listed.is_in_line l.contract l.side) (take l.order-index l.orders)
