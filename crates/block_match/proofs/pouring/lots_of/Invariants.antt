use Rattle.std.proofs.Common.{◌≡◌, take}
use Rattle.route_choice.specs.Poured.{lots_of}
use Rattle.block_match.proofs.pouring.lots_of.Given as goal

-- the lots of the legs so far
abbrev pub invariant-loop-leg : goal.invariant-loop-leg
invariant-loop-leg l = l.lots ≡ lots_of (take l.leg-index l.legs)
