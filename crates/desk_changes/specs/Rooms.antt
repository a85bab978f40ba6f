-- Rooms that legs can be carried in.
use Rattle.std.specs.Prelude.{ℕ, List, [], ◌∷◌}
use Rattle.zone_graph.specs.declared.route.Arc.{Arc}
use Rattle.zone_graph.specs.declared.route.RouteLeg.{RouteLeg}
use Rattle.zone_graph.specs.Pour.{room_after}
use Rattle.cut_proof.specs.Carrying.{CanCarry}

-- legs can be carried one after the other, each within the rooms that those before it leave
abbrev pub CanCarryEach : (borders : ℕ) → (Arc → ℕ) → List RouteLeg → Type 0
CanCarryEach borders room [] = Unit {0}
CanCarryEach borders room (leg ∷ legs) = CanCarry borders room leg.lots leg.route × CanCarryEach borders (room_after room leg) legs
