-- Routes between zones, and the best of them. Energy goes from the seller's zone to the buyer's.
-- The choice of the best route is this profile's: the fewest arcs, then the least numbers of
-- borders.
use Rattle.std.specs.Prelude.{◌≡◌, ℕ, zero, suc, ◌<◌, Bool, true, false, ◌==◌, ◌&&◌, ◌||◌, not, List, [], ◌∷◌, length, map, filter, flat_map, fold, min, Option, Some, None, nat_lt, ◌⊎◌, if◌then◌else◌}
use Rattle.std.specs.List.{range_with_len}
use Rattle.std.specs.Ordering.{nat_cmp, ordering_then, is_gt}
use Rattle.std.specs.declared.cmp.Ordering.{Ordering}
use Rattle.std.specs.Cmp.Lexicographic.{slice_cmp}
use Rattle.zone_graph.specs.declared.route.Arc.{Arc}
use Rattle.zone_graph.specs.Graph.{Graph, HasArc, arcs_from, end_of, start_of, zone_count}

-- an item of a list
abbrev pub IsIn : {X : Type 0} → X → List X → Type 0
IsIn x [] = ⊥
IsIn x (y ∷ ys) = (x ≡ y) ⊎ IsIn x ys

-- no item stands twice
abbrev pub AreDifferent : {X : Type 0} → List X → Type 0
AreDifferent [] = Unit {0}
AreDifferent (x ∷ xs) = (¬ IsIn x xs) × AreDifferent xs

-- a way from a zone to a zone: arcs of the graph with room, each of which starts where the one
-- before it ends
abbrev pub IsWay : Graph → (Arc → ℕ) → (from : ℕ) → List Arc → (to : ℕ) → Type 0
IsWay graph room from [] to = from ≡ to
IsWay graph room from (arc ∷ arcs) to =
    HasArc graph arc × (start_of graph arc ≡ from) × (0 < room arc) × IsWay graph room (end_of graph arc) arcs to

-- the zones on a way, its first among them
abbrev pub zones_on : Graph → (from : ℕ) → List Arc → List ℕ
zones_on graph from arcs = from ∷ map (end_of graph) arcs

-- a route: a way that is in no zone twice; the empty route joins a zone to itself
pub record IsRoute (graph : Graph) (room : Arc → ℕ) (from to : ℕ) (arcs : List Arc) : Type 0 where
  pub way : IsWay graph room from arcs to
  pub simple : AreDifferent (zones_on graph from arcs)

-- the least of a number of lots and the rooms of a route's arcs: what the route can carry of the
-- lots; the empty route bounds nothing
abbrev pub carried : (Arc → ℕ) → (lots : ℕ) → List Arc → ℕ
carried room lots arcs = fold (λ least arc. min least (room arc)) lots arcs

-- the fewer arcs, and of equally many the lexicographically least border numbers
abbrev pub route_cmp : List Arc → List Arc → Ordering
route_cmp a b = ordering_then (nat_cmp (length a) (length b)) (slice_cmp nat_cmp (map (λ arc. arc.border) a) (map (λ arc. arc.border) b))

-- a route that no other beats
pub record IsBestRoute (graph : Graph) (room : Arc → ℕ) (from to : ℕ) (arcs : List Arc) : Type 0 where
  pub route : IsRoute graph room from to arcs
  pub best : (other : List Arc) → IsRoute graph room from to other → is_gt (route_cmp arcs other) ≡ false

-- zones without one of them
abbrev pub without : ℕ → List ℕ → List ℕ
without zone zones = filter (λ other. not (other == zone)) zones

abbrev pub has : ℕ → List ℕ → Bool
has zone [] = false
has zone (other ∷ zones) = (other == zone) || has zone zones

-- the empty route alone where the zone is reached, else what leads on; only what is asked for is
-- computed, so what leads on is a function
abbrev pub arrived_or : Bool → (Unit {0} → List (List Arc)) → List (List Arc)
arrived_or true onward = [] ∷ []
arrived_or false onward = onward tt

-- the routes that begin with an arc, where it can be taken
abbrev pub begun_with : Bool → Arc → (Unit {0} → List (List Arc)) → List (List Arc)
begun_with true arc onward = map (λ arcs. arc ∷ arcs) (onward tt)
begun_with false arc onward = []

-- an arc has room and leads to a zone that is still free
abbrev pub can_take : Graph → (Arc → ℕ) → List ℕ → Arc → Bool
can_take graph room free arc = nat_lt 0 (room arc) && has (end_of graph arc) free

-- all routes of so many arcs at the most that pass through zones which are still free, each once
unfoldable pub routes_through : (most : ℕ) → Graph → (Arc → ℕ) → (free : List ℕ) → (from to : ℕ) → List (List Arc)
routes_through zero graph room free from to = arrived_or (from == to) (λ _. [])
routes_through (suc most) graph room free from to = arrived_or (from == to) (λ _. flat_map
    (λ arc. begun_with (can_take graph room free arc) arc
    (λ _. routes_through most graph room (without (end_of graph arc) free) (end_of graph arc) to))
    (arcs_from graph from))

-- all routes from a zone to a zone
abbrev pub routes : Graph → (Arc → ℕ) → (from to : ℕ) → List (List Arc)
routes graph room from to =
    let free = without from (range_with_len 0 (zone_count graph)) in routes_through (length free) graph room free from to

-- the lesser of an item and another one, if there is one, the first of equal ones
abbrev pub lesser_of : {X : Type 0} → (X → X → Ordering) → X → Option X → X
lesser_of cmp x None = x
lesser_of cmp x (Some y) = if is_gt (cmp x y) then y else x

-- the least item by an order, the first of equal ones
abbrev pub least_by : {X : Type 0} → (X → X → Ordering) → List X → Option X
least_by cmp [] = None
least_by cmp (x ∷ xs) = Some (lesser_of cmp x (least_by cmp xs))

-- the best route: of the routes with the fewest arcs the one with the least border numbers
abbrev pub best_route : Graph → (Arc → ℕ) → (from to : ℕ) → Option (List Arc)
best_route graph room from to = least_by route_cmp (routes graph room from to)
