use Rattle.std.proofs.Common.{◌≡◌, drop}
use Rattle.std.specs.List.{find}
use Rattle.plain_matching.specs.Over.{is_open_as}
use Rattle.plain_matching.proofs.taking.open_as.Given as goal

-- none of the orders so far is open under the name
abbrev pub invariant-loop-order : goal.invariant-loop-order
invariant-loop-order l = find (is_open_as l.name) (drop l.order-index l.orders) ≡ find (is_open_as l.name) l.orders
