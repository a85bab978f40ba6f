-- What is true of routes in every graph, for whatever rooms its arcs have.
use Rattle.std.specs.Prelude.{◌≡◌, ◌↔◌, ℕ, true, List, Some, None}
use Rattle.zone_graph.specs.declared.route.Arc.{Arc}
use Rattle.zone_graph.specs.Graph.{Graph, HasArc, IsGraph}
use Rattle.zone_graph.specs.Route.{IsBestRoute, IsRoute, best_route}
use Rattle.zone_graph.specs.Reach.{reaches}

-- the best route is the one route that no other beats
abbrev pub NoOtherBeatsIt : Type 0
NoOtherBeatsIt = (graph : Graph) (room : Arc → ℕ) (from to : ℕ) (arcs : List Arc) → IsGraph graph
    → (best_route graph room from to ≡ Some arcs) ↔ IsBestRoute graph room from to arcs

-- there is none exactly where there is no route
abbrev pub NoneWhereNoRouteIs : Type 0
NoneWhereNoRouteIs = (graph : Graph) (room : Arc → ℕ) (from to : ℕ) → IsGraph graph
    → (best_route graph room from to ≡ None) ↔ ((arcs : List Arc) → ¬ IsRoute graph room from to arcs)

-- it depends on the rooms of the graph's arcs alone
abbrev pub RoomsOfItsArcsDecide : Type 0
RoomsOfItsArcsDecide = (graph : Graph) (room other : Arc → ℕ) (from to : ℕ) → IsGraph graph
    → ((arc : Arc) → HasArc graph arc → room arc ≡ other arc)
    → best_route graph room from to ≡ best_route graph other from to

-- a zone reaches another exactly where a route leads there
abbrev pub RoutesReach : Type 0
RoutesReach = (graph : Graph) (room : Arc → ℕ) (from to : ℕ) → IsGraph graph
    → ((arcs : List Arc) → IsRoute graph room from to arcs → reaches graph room from to ≡ true)
    × (reaches graph room from to ≡ true → (arcs : List Arc) × IsRoute graph room from to arcs)
