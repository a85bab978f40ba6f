-- Cuts: the rooms of the arcs into and out of a set of zones, and which zones are reached, before
-- and after a leg is carried.
use Rattle.std.specs.Prelude.{◌≡◌, ℕ, ◌+◌, ◌≤◌, Bool, true, false, List, map}
use Rattle.zone_graph.specs.declared.route.Arc.{Arc}
use Rattle.zone_graph.specs.declared.route.RouteLeg.{RouteLeg}
use Rattle.zone_graph.specs.Graph.{Graph, IsGraph}
use Rattle.zone_graph.specs.Pour.{room_after}
use Rattle.zone_graph.specs.Reach.{entering_room, leaving_room, reaches, zones_beyond, zones_towards}
use Rattle.zone_graph.specs.Route.{AreDifferent, IsIn, IsRoute, has}

-- there is room for a leg: its route leads from a zone to a zone, over arcs each of which has room
-- for its lots
pub record HasRoomFor (graph : Graph) (room : Arc → ℕ) (from to : ℕ) (leg : RouteLeg) : Type 0 where
  pub is_route : IsRoute graph room from to leg.route
  pub has_room : (arc : Arc) → IsIn arc leg.route → leg.lots ≤ room arc

-- the rooms of the arcs into and out of a set of zones are as before a leg
pub record KeepsTheCut (graph : Graph) (room : Arc → ℕ) (zones : List ℕ) (leg : RouteLeg) : Type 0 where
  pub entering : entering_room graph (room_after room leg) zones ≡ entering_room graph room zones
  pub leaving : leaving_room graph (room_after room leg) zones ≡ leaving_room graph room zones

-- a leg has taken its lots from the rooms of the arcs into a set of zones, and has given them to
-- the rooms of the arcs out of it
pub record TakesEnteringRoom (graph : Graph) (room : Arc → ℕ) (zones : List ℕ) (leg : RouteLeg) : Type 0 where
  pub entering : entering_room graph (room_after room leg) zones + leg.lots ≡ entering_room graph room zones
  pub leaving : leaving_room graph (room_after room leg) zones ≡ leaving_room graph room zones + leg.lots

-- a leg has taken its lots from the rooms of the arcs out of a set of zones, and has given them to
-- the rooms of the arcs into it
pub record TakesLeavingRoom (graph : Graph) (room : Arc → ℕ) (zones : List ℕ) (leg : RouteLeg) : Type 0 where
  pub entering : entering_room graph (room_after room leg) zones ≡ entering_room graph room zones + leg.lots
  pub leaving : leaving_room graph (room_after room leg) zones + leg.lots ≡ leaving_room graph room zones

-- the sum of the rooms of the arcs that enter a set of zones (towards), or of those that leave it
abbrev pub crossing_room : Graph → (Arc → ℕ) → List ℕ → (towards : Bool) → ℕ
crossing_room graph room zones true = entering_room graph room zones
crossing_room graph room zones false = leaving_room graph room zones

-- a route leads from a zone to another one (towards), or back
abbrev pub reaches_in : Graph → (Arc → ℕ) → (from to : ℕ) → (towards : Bool) → Bool
reaches_in graph room from to true = reaches graph room from to
reaches_in graph room from to false = reaches graph room to from

-- the zones from which a route leads to a zone (towards), or those to which one leads from it
abbrev pub reached_zones : Graph → (Arc → ℕ) → ℕ → (towards : Bool) → List ℕ
reached_zones graph room zone true = zones_towards graph room zone
reached_zones graph room zone false = zones_beyond graph room zone

-- a route takes no border twice
abbrev pub RoutesUseBordersOnce : Type 0
RoutesUseBordersOnce = (graph : Graph) (room : Arc → ℕ) (from to : ℕ) (route : List Arc)
    → IsRoute graph room from to route → AreDifferent (map (λ arc. arc.border) route)

-- a leg from outside a set of zones into it takes its lots from the rooms of the arcs that enter
abbrev pub LegsInTakeEnteringRoom : Type 0
LegsInTakeEnteringRoom = (graph : Graph) (room : Arc → ℕ) (from to : ℕ) (zones : List ℕ) (leg : RouteLeg)
    → HasRoomFor graph room from to leg → has from zones ≡ false → has to zones ≡ true
    → TakesEnteringRoom graph room zones leg

-- a leg from a set of zones to outside it takes its lots from the rooms of the arcs that leave
abbrev pub LegsOutTakeLeavingRoom : Type 0
LegsOutTakeLeavingRoom = (graph : Graph) (room : Arc → ℕ) (from to : ℕ) (zones : List ℕ) (leg : RouteLeg)
    → HasRoomFor graph room from to leg → has from zones ≡ true → has to zones ≡ false
    → TakesLeavingRoom graph room zones leg

-- a leg within a set of zones, or outside it, leaves the rooms of its arcs as they were
abbrev pub InnerLegsKeepTheCut : Type 0
InnerLegsKeepTheCut = (graph : Graph) (room : Arc → ℕ) (from to : ℕ) (zones : List ℕ) (leg : RouteLeg)
    → HasRoomFor graph room from to leg → has from zones ≡ has to zones
    → KeepsTheCut graph room zones leg

-- a leg lets no further zone reach the zone where it ends
abbrev pub ReachToAnEndDoesNotGrow : Type 0
ReachToAnEndDoesNotGrow = (graph : Graph) (room : Arc → ℕ) (from to zone : ℕ) (leg : RouteLeg)
    → IsGraph graph → IsRoute graph room from to leg.route
    → reaches graph room zone to ≡ false → reaches graph (room_after room leg) zone to ≡ false

-- a leg lets the zone where it starts reach no further zone
abbrev pub ReachFromAStartDoesNotGrow : Type 0
ReachFromAStartDoesNotGrow = (graph : Graph) (room : Arc → ℕ) (from to zone : ℕ) (leg : RouteLeg)
    → IsGraph graph → IsRoute graph room from to leg.route
    → reaches graph room from zone ≡ false → reaches graph (room_after room leg) from zone ≡ false

-- no arc with room leads into the zones from which a zone is reached
abbrev pub NoRoomEntersTheZonesTowards : Type 0
NoRoomEntersTheZonesTowards = (graph : Graph) (room : Arc → ℕ) (zone : ℕ)
    → IsGraph graph → entering_room graph room (zones_towards graph room zone) ≡ 0

-- no arc with room leads out of the zones that a zone reaches
abbrev pub NoRoomLeavesTheZonesBeyond : Type 0
NoRoomLeavesTheZonesBeyond = (graph : Graph) (room : Arc → ℕ) (zone : ℕ)
    → IsGraph graph → leaving_room graph room (zones_beyond graph room zone) ≡ 0
