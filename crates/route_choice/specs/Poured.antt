-- What a pour leaves of the rooms, and that it carries as much as they allow.
use Rattle.std.specs.Prelude.{◌≡◌, ℕ, ◌⊎◌, ◌↔◌, false, List, fold, sum_by, take}
use Rattle.zone_graph.specs.declared.route.Arc.{Arc}
use Rattle.zone_graph.specs.declared.route.RouteLeg.{RouteLeg}
use Rattle.zone_graph.specs.Graph.{Graph, IsGraph}
use Rattle.zone_graph.specs.Pour.{IsPour, pour, room_after}
use Rattle.zone_graph.specs.Reach.{entering_room, zones_towards}
use Rattle.zone_graph.specs.Route.{has}

-- the rooms after legs, in their order
abbrev pub rooms_after : (Arc → ℕ) → List RouteLeg → Arc → ℕ
rooms_after room legs = fold room_after room legs

-- the lots of legs together
abbrev pub lots_of : List RouteLeg → ℕ
lots_of legs = sum_by (λ leg. leg.lots) legs

-- the rooms are those after legs
abbrev pub AreRoomsAfter : (before after : Arc → ℕ) → List RouteLeg → Type 0
AreRoomsAfter before after legs = (arc : Arc) → after arc ≡ rooms_after before legs arc

-- the rooms are those after a first part of legs
abbrev pub AreRoomsAfterSome : (before after : Arc → ℕ) → List RouteLeg → Type 0
AreRoomsAfterSome before after legs = (count : ℕ) × AreRoomsAfter before after (take count legs)

-- legs carry all lots; or the zone that they start from is outside the zones from which their end
-- can still be reached, and they carry exactly what had room into these zones, so that nothing
-- carries more
abbrev pub CarryTheMost : Graph → (before after : Arc → ℕ) → (from to most : ℕ) → List RouteLeg → Type 0
CarryTheMost graph before after from to most legs =
    let zones = zones_towards graph after to in
    (lots_of legs ≡ most) ⊎ ((lots_of legs ≡ entering_room graph before zones) × (has from zones ≡ false))

-- the legs of a pour over a row of rooms are the one run to its end: each is the next one, and after
-- the last there is none
abbrev pub PoursRunToTheirEnd : Type 0
PoursRunToTheirEnd = (graph : Graph) (room : Arc → ℕ) (from to most : ℕ) (legs : List RouteLeg) → IsGraph graph
    → IsPour graph room from to most legs ↔ (legs ≡ pour graph room from to most)
