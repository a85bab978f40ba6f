-- Pouring lots from zone to zone: the best route carries what it can of them, and the choice is
-- made again with the rooms that this leaves. The rule is this profile's.
use Rattle.std.specs.Prelude.{ℕ, zero, suc, ◌+◌, ◌-◌, Bool, true, false, ◌==◌, ◌&&◌, not, List, Option, None, if◌then◌else◌}
use Rattle.std.specs.List.{list_any}
use Rattle.std.specs.Option.{option_map}
use Rattle.zone_graph.specs.declared.route.Arc.{Arc}
use Rattle.zone_graph.specs.declared.route.RouteLeg.{RouteLeg}
use Rattle.zone_graph.specs.Graph.{Graph}
use Rattle.zone_graph.specs.Route.{best_route, carried}
use Rattle.zone_graph.specs.Steps.{IsRun, steps}

-- both are true or both are false
abbrev pub same_bool : Bool → Bool → Bool
same_bool true b = b
same_bool false b = not b

-- two arcs are the same border in the same direction
abbrev pub same_arc : Arc → Arc → Bool
same_arc a b = (a.border == b.border) && same_bool a.forward b.forward

-- the arc over the same border in the other direction
abbrev pub opposite_arc : Arc → Arc
opposite_arc arc = record { border = arc.border; forward = not arc.forward }

-- an arc is one of a route's
abbrev pub uses : List Arc → Arc → Bool
uses route arc = list_any (same_arc arc) route

-- the lots where a test holds, else none
abbrev pub lots_if : Bool → ℕ → ℕ
lots_if test lots = if test then lots else 0

-- the rooms after a route has carried lots: so much less on its arcs, so much more on the arcs
-- opposite to them
abbrev pub room_after : (Arc → ℕ) → RouteLeg → Arc → ℕ
room_after room leg arc = (room arc + lots_if (uses leg.route (opposite_arc arc)) leg.lots) - lots_if (uses leg.route arc) leg.lots

-- the next leg of a pour of so many lots that are left: over the best route, of what it can carry
-- of them; none where nothing is left or no route is there
abbrev pub pour_leg : Graph → (Arc → ℕ) → (from to left : ℕ) → Option RouteLeg
pour_leg graph room from to zero = None
pour_leg graph room from to (suc more) =
    option_map (λ route. record { route = route; lots = carried room (suc more) route }) (best_route graph room from to)

-- the rooms, and what is left to pour
pub record Pouring : Type 0 where
  pub room : Arc → ℕ
  pub left : ℕ

abbrev pub next_pour_leg : Graph → (from to : ℕ) → Pouring → Option RouteLeg
next_pour_leg graph from to pouring = pour_leg graph pouring.room from to pouring.left

abbrev pub after_pour_leg : Pouring → RouteLeg → Pouring
after_pour_leg pouring leg = record { room = room_after pouring.room leg; left = pouring.left - leg.lots }

-- the legs of a pour; each has a lot at least, so there are no more of them than lots
abbrev pub pour : Graph → (Arc → ℕ) → (from to most : ℕ) → List RouteLeg
pour graph room from to most =
    steps most (next_pour_leg graph from to) after_pour_leg (record { room = room; left = most })

-- these are the legs of the pour: each is the next one, and after the last there is none
abbrev pub IsPour : Graph → (Arc → ℕ) → (from to most : ℕ) → List RouteLeg → Type 0
IsPour graph room from to most legs =
    IsRun (next_pour_leg graph from to) after_pour_leg (record { room = room; left = most }) legs
