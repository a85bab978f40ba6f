-- Trees of routes: what a tree keeps, and the routes that are read off it.
use Rattle.std.specs.Prelude.{◌≡◌, ℕ, zero, suc, ◌<◌, Bool, true, false, List, [], ◌∷◌, ◌++◌, length, Option, Some, None, slice_index_or}
use Rattle.std.specs.Option.{option_map}
use Rattle.zone_graph.specs.declared.route.Arc.{Arc}
use Rattle.zone_graph.specs.declared.grid.Neighbour.{Neighbour}
use Rattle.zone_graph.specs.Graph.{most_zones}
use Rattle.route_choice.specs.declared.search.Branches.{Branches}
use Rattle.route_choice.specs.Search.{step_at}

-- a zone, how far the others are to it (towards) or from it, and for each of these the last step
-- that its best route takes away from that zone: the arc, and the zone at the other end of it
pub record Tree : Type 0 where
  pub zone : ℕ
  pub towards : Bool
  pub distances : List (Option ℕ)
  pub steps : List Neighbour

-- the tree of a zone of what a search has found
abbrev pub tree_of : Branches → (zone : ℕ) → (towards : Bool) → Tree
tree_of branches zone towards = record { zone = zone; towards = towards; distances = branches.distances; steps = branches.steps }

-- each zone has places in the lists, and each step leads to one; no distance is as great as the
-- number of places
pub record HasPlaces (tree : Tree) : Type 0 where
  pub distance_places : length tree.distances ≡ most_zones
  pub step_places : length tree.steps ≡ most_zones
  pub short : (zone arcs : ℕ) → slice_index_or tree.distances zone None ≡ Some arcs → arcs < most_zones
  pub within : (zone : ℕ) → (step_at tree.steps zone).zone < most_zones

-- an arc before a route towards a zone, or after one from it
abbrev pub arc_joined : (towards : Bool) → Arc → List Arc → List Arc
arc_joined true arc route = arc ∷ route
arc_joined false arc route = route ++ arc ∷ []

-- the route of so many arcs that the steps tell, one after the other, beginning with the step of
-- the other zone
abbrev pub route_along : List Neighbour → (towards : Bool) → (arcs : ℕ) → (other : ℕ) → List Arc
route_along steps towards zero other = []
route_along steps towards (suc arcs) other = arc_joined towards (step_at steps other).arc (route_along steps towards arcs (step_at steps other).zone)

-- the route that a tree tells: none where the other zone has no distance
abbrev pub told_route : Tree → (other : ℕ) → Option (List Arc)
told_route tree other = option_map (λ arcs. route_along tree.steps tree.towards arcs other) (slice_index_or tree.distances other None)
