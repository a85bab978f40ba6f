-- Legs that may give an arc its first room.
use Rattle.std.specs.Prelude.{ℕ, Bool, List, not, nat_lt}
use Rattle.std.specs.List.{list_any}
use Rattle.zone_graph.specs.declared.route.Arc.{Arc}
use Rattle.zone_graph.specs.declared.route.RouteLeg.{RouteLeg}
use Rattle.zone_graph.specs.Graph.{Graph, HasArc}
use Rattle.zone_graph.specs.Pour.{opposite_arc}
use Rattle.zone_graph.specs.Route.{IsIn}

-- the opposite of an arc has no room
abbrev pub is_shut_back : (Arc → ℕ) → Arc → Bool
is_shut_back room arc = not (nat_lt 0 (room (opposite_arc arc)))

-- a route goes over such an arc
abbrev pub opens : (Arc → ℕ) → List Arc → Bool
opens room route = list_any (is_shut_back room) route

-- so does one of some legs
abbrev pub may_open : (Arc → ℕ) → List RouteLeg → Bool
may_open room legs = list_any (λ leg. opens room leg.route) legs

-- legs go over arcs of a graph
abbrev pub AreOver : Graph → List RouteLeg → Type 0
AreOver graph legs = (leg : RouteLeg) → IsIn leg legs → (arc : Arc) → IsIn arc leg.route → HasArc graph arc
