-- What the rooms of arcs are to keep so that a route can carry lots.
use Rattle.std.specs.Prelude.{◌≢◌, ℕ, ◌+◌, ◌<◌, ◌≤◌, ◌^◌, List, [], ◌∷◌}
use Rattle.zone_graph.specs.declared.route.Arc.{Arc}
use Rattle.zone_graph.specs.Graph.{Graph, HasArc}
use Rattle.zone_graph.specs.Pour.{opposite_arc}
use Rattle.zone_graph.specs.Route.{IsIn}

-- the rooms of the two arcs of each border are less than 2^32 together
abbrev pub FitTogether : Graph → (Arc → ℕ) → Type 0
FitTogether graph room = (arc : Arc) → HasArc graph arc → room arc + room (opposite_arc arc) < 2 ^ 32

-- lots can be carried over a route, arc by arc: over each arc there is room for them, the opposite
-- room stays below 2^32, and no border stands twice
abbrev pub CanCarry : (borders : ℕ) → (Arc → ℕ) → (lots : ℕ) → List Arc → Type 0
CanCarry borders room lots [] = Unit {0}
CanCarry borders room lots (arc ∷ arcs) =
    (arc.border < borders) × (lots ≤ room arc) × (room (opposite_arc arc) + lots < 2 ^ 32)
    × ((other : Arc) → IsIn other arcs → other.border ≢ arc.border) × CanCarry borders room lots arcs
