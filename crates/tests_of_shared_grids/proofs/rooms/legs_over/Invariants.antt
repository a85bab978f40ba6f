use Rattle.std.proofs.Common.{◌≡◌, map, take}
use Rattle.tests_of_shared_grids.proofs.rooms.legs_over.Given as goal

-- the legs so far are made
abbrev pub invariant-loop-arcs : goal.invariant-loop-arcs
invariant-loop-arcs l = l.made ≡ map (λ leg. record { route = leg.0.now; lots = leg.1 }) (take l.arcs-index l.legs)
