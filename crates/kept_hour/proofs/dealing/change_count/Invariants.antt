use Rattle.std.proofs.Common.{◌≡◌, ◌+◌, take}
use Rattle.kept_hour.specs.Deals.{arc_count}
use Rattle.kept_hour.proofs.dealing.change_count.Given as goal

-- the two blocks, and the arcs of the legs so far
abbrev pub invariant-loop-leg : goal.invariant-loop-leg
invariant-loop-leg l = l.count ≡ 2 + arc_count (take l.leg-index l.legs)
