-- Which zones a zone can be reached from or can reach, and the rooms of the arcs between a set of
-- zones and the others.
use Rattle.std.specs.Prelude.{ℕ, Bool, ◌&&◌, not, List, filter, sum_by, is_some}
use Rattle.std.specs.List.{range_with_len}
use Rattle.zone_graph.specs.declared.route.Arc.{Arc}
use Rattle.zone_graph.specs.Graph.{Graph, arcs_of, end_of, start_of, zone_count}
use Rattle.zone_graph.specs.Route.{best_route, has}

-- a route leads from a zone to a zone
abbrev pub reaches : Graph → (Arc → ℕ) → (from to : ℕ) → Bool
reaches graph room from to = is_some (best_route graph room from to)

-- the zones from which a route leads to a zone, by ascending number
abbrev pub zones_towards : Graph → (Arc → ℕ) → ℕ → List ℕ
zones_towards graph room zone = filter (λ other. reaches graph room other zone) (range_with_len 0 (zone_count graph))

-- the zones to which a route leads from a zone, by ascending number
abbrev pub zones_beyond : Graph → (Arc → ℕ) → ℕ → List ℕ
zones_beyond graph room zone = filter (λ other. reaches graph room zone other) (range_with_len 0 (zone_count graph))

-- an arc leads from outside a set of zones into it
abbrev pub enters : Graph → List ℕ → Arc → Bool
enters graph zones arc = not (has (start_of graph arc) zones) && has (end_of graph arc) zones

-- an arc leads out of a set of zones
abbrev pub leaves : Graph → List ℕ → Arc → Bool
leaves graph zones arc = has (start_of graph arc) zones && not (has (end_of graph arc) zones)

-- the sum of the rooms of the arcs that enter a set of zones
abbrev pub entering_room : Graph → (Arc → ℕ) → List ℕ → ℕ
entering_room graph room zones = sum_by room (filter (enters graph zones) (arcs_of graph))

-- the sum of the rooms of the arcs that leave a set of zones
abbrev pub leaving_room : Graph → (Arc → ℕ) → List ℕ → ℕ
leaving_room graph room zones = sum_by room (filter (leaves graph zones) (arcs_of graph))
