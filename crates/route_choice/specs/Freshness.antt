-- What a tree of routes says of the rooms: those that it was made over, and later ones.
use Rattle.std.specs.Prelude.{◌≡◌, ℕ, ◌<◌, ◌≤◌, Bool, true, false, List, length, Option, Some, is_some, nat_lt}
use Rattle.zone_graph.specs.declared.route.Arc.{Arc}
use Rattle.zone_graph.specs.declared.route.RouteLeg.{RouteLeg}
use Rattle.zone_graph.specs.Graph.{Graph, HasZone, IsGraph}
use Rattle.zone_graph.specs.Pour.{room_after}
use Rattle.zone_graph.specs.Route.{IsIn, IsRoute, best_route}
use Rattle.cut_proof.specs.Distance.{AreDistances, directed_room}
use Rattle.route_choice.specs.Tree.{HasPlaces, Tree, told_route}

-- the best route from another zone to a zone (towards), or from the zone to the other one
abbrev pub directed_route : Graph → (Arc → ℕ) → (zone other : ℕ) → (towards : Bool) → Option (List Arc)
directed_route graph room zone other true = best_route graph room other zone
directed_route graph room zone other false = best_route graph room zone other

-- arcs are a route from another zone to a zone (towards), or from the zone to the other one
abbrev pub IsDirectedRoute : Graph → (Arc → ℕ) → (zone other : ℕ) → (towards : Bool) → List Arc → Type 0
IsDirectedRoute graph room zone other true arcs = IsRoute graph room other zone arcs
IsDirectedRoute graph room zone other false arcs = IsRoute graph room zone other arcs

-- the best route between a zone and that of a tree, in its direction
abbrev pub searched_route : Graph → (Arc → ℕ) → Tree → (other : ℕ) → Option (List Arc)
searched_route graph room tree other = directed_route graph room tree.zone other tree.towards

-- a route leads between a zone and that of a tree, in its direction
abbrev pub is_reached : Graph → (Arc → ℕ) → Tree → (other : ℕ) → Bool
is_reached graph room tree other = is_some (searched_route graph room tree other)

-- a tree tells a route between a zone and its own
abbrev pub is_known : Tree → (other : ℕ) → Bool
is_known tree other = is_some (told_route tree other)

-- a tree has the distances over these rooms, and tells the best routes over them
pub record IsFresh (graph : Graph) (room : Arc → ℕ) (tree : Tree) : Type 0 where
  pub there : HasZone graph tree.zone
  pub distances : AreDistances graph (directed_room room tree.towards) tree.zone tree.distances
  pub routes : (other : ℕ) → told_route tree other ≡ searched_route graph room tree other

-- a tree has its places and the distances over these rooms, and where it is one of routes from its
-- zone it tells the best ones
pub record IsFound (graph : Graph) (room : Arc → ℕ) (tree : Tree) : Type 0 where
  pub distances : AreDistances graph (directed_room room tree.towards) tree.zone tree.distances
  pub places : HasPlaces tree
  pub fresh : tree.towards ≡ false → IsFresh graph room tree

-- over these rooms no route leads between a zone to which a tree tells none and that of the tree
abbrev pub Excludes : Graph → (Arc → ℕ) → Tree → Type 0
Excludes graph room tree = (other : ℕ) → is_known tree other ≡ false → is_reached graph room tree other ≡ false

-- an answer says whether a route leads between a zone and that of a tree: exactly over rooms over
-- which the tree is fresh, and where it says no, also over those over which it still excludes
pub record TellsReach (tree : Tree) (other : ℕ) (answer : Bool) : Type 0 where
  pub exact : (graph : Graph) (room : Arc → ℕ) → IsGraph graph → IsFresh graph room tree → answer ≡ is_reached graph room tree other
  pub excluded : (graph : Graph) (room : Arc → ℕ) → Excludes graph room tree → answer ≡ false → is_reached graph room tree other ≡ false

-- an arc has room
abbrev pub has_room : (Arc → ℕ) → Arc → Bool
has_room room arc = nat_lt 0 (room arc)

-- a tree that is fresh is so over these rooms too, where they are those after a leg over its best
-- route to or from some zone
abbrev pub StaysFresh : Tree → (after : Arc → ℕ) → List Arc → Type 0
StaysFresh tree after route = (graph : Graph) (room : Arc → ℕ) (other lots : ℕ) → IsGraph graph → IsFresh graph room tree
    → searched_route graph room tree other ≡ Some route
    → ((arc : Arc) → after arc ≡ room_after room (record { route = route; lots = lots }) arc)
    → IsFresh graph after tree

-- a route than which none is shorter
pub record IsShortestRoute (graph : Graph) (room : Arc → ℕ) (from to : ℕ) (arcs : List Arc) : Type 0 where
  pub route : IsRoute graph room from to arcs
  pub shortest : (other : List Arc) → IsRoute graph room from to other → length arcs ≤ length other

-- a leg leaves room on each arc of its route
abbrev pub LeavesRoom : (Arc → ℕ) → RouteLeg → Type 0
LeavesRoom room leg = (arc : Arc) → IsIn arc leg.route → 0 < room_after room leg arc

-- the distances to a zone (towards), or from it, and the best routes into it, or out of it, are the
-- same over other rooms
pub record KeepsSearches (graph : Graph) (room after : Arc → ℕ) (zone : ℕ) (towards : Bool) : Type 0 where
  pub distances : (distances : List (Option ℕ)) → AreDistances graph (directed_room room towards) zone distances
      → AreDistances graph (directed_room after towards) zone distances
  pub routes : (other : ℕ) → directed_route graph after zone other towards ≡ directed_route graph room zone other towards

-- a leg over a shortest route, on which it leaves room, changes no distance to its end and no best
-- route into it, and no distance from its start and no best route out of it
abbrev pub ShortLegsKeepSearches : Type 0
ShortLegsKeepSearches = (graph : Graph) (room : Arc → ℕ) (from to : ℕ) (leg : RouteLeg)
    → IsGraph graph → IsShortestRoute graph room from to leg.route → LeavesRoom room leg
    → KeepsSearches graph room (room_after room leg) to true × KeepsSearches graph room (room_after room leg) from false

-- a fresh tree excludes
abbrev pub FreshSearchesExclude : Type 0
FreshSearchesExclude = (graph : Graph) (room : Arc → ℕ) (tree : Tree) → IsGraph graph → IsFresh graph room tree → Excludes graph room tree

-- what a tree excludes stays out of reach after a leg between its zone and another one
abbrev pub LegsKeepExclusion : Type 0
LegsKeepExclusion = (graph : Graph) (room : Arc → ℕ) (tree : Tree) (other : ℕ) (leg : RouteLeg)
    → IsGraph graph → IsDirectedRoute graph room tree.zone other tree.towards leg.route
    → Excludes graph room tree → Excludes graph (room_after room leg) tree
