use Rattle.std.proofs.Common.{◌≡◌, map, take}
use Rattle.laws_of_rows.specs.Depth.{maker_of}
use Rattle.plain_market.proofs.maker.makers_of.Given as goal

-- the makers of the orders so far
abbrev pub invariant-loop-order : goal.invariant-loop-order
invariant-loop-order l = l.makers.items ≡ map maker_of (take l.order-index l.line)
