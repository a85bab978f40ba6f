-- Grids: graphs of few zones and borders, of which no two are alike, and what is looked up in them.
use Rattle.std.specs.Prelude.{◌≡◌, ℕ, ◌<◌, ◌≤◌, Bool, true, ◌==◌, ◌&&◌, ◌||◌, List, [], Option, map, find, position, nat_eq, slice_index_or}
use Rattle.std.specs.Cmp.Lexicographic.{pointwise}
use Rattle.zone_graph.specs.declared.route.Arc.{Arc}
use Rattle.zone_graph.specs.declared.grid.Neighbour.{Neighbour}
use Rattle.zone_graph.specs.Graph.{Graph, HasZone, IsGraph, arcs_from, arcs_of, border_count, end_of, ends_of, start_of, zone_count, most_zones, most_borders}

-- the name of a zone
abbrev pub name_of : Graph → ℕ → List ℕ
name_of graph zone = slice_index_or graph.zones zone []

-- two names have the same bytes
abbrev pub same_name : List ℕ → List ℕ → Bool
same_name = pointwise nat_eq

-- two borders join the same two zones, in either order
abbrev pub same_ends : ℕ × ℕ → ℕ × ℕ → Bool
same_ends a b = ((a.0 == b.0) && (a.1 == b.1)) || ((a.0 == b.1) && (a.1 == b.0))

-- the ends of each border are zones of the graph
abbrev pub JoinsZones : Graph → Type 0
JoinsZones graph = (border : ℕ) → border < border_count graph → HasZone graph (ends_of graph border).0 × HasZone graph (ends_of graph border).1

-- a graph of at most 64 zones, each of another name, and at most 128 borders, each of which joins
-- two zones that no other one joins
pub record IsGrid (graph : Graph) : Type 0 where
  pub is_graph : IsGraph graph
  pub few_zones : zone_count graph ≤ most_zones
  pub few_borders : border_count graph ≤ most_borders
  pub names_differ : (zone other : ℕ) → HasZone graph zone → HasZone graph other → name_of graph zone ≡ name_of graph other → zone ≡ other
  pub ends_differ : (border other : ℕ) → border < border_count graph → other < border_count graph → same_ends (ends_of graph border) (ends_of graph other) ≡ true → border ≡ other

-- the number of the zone that has a name, if there is one
abbrev pub number_of_zone : Graph → List ℕ → Option ℕ
number_of_zone graph name = position (same_name name) graph.zones

-- an arc leads from a zone to a zone
abbrev pub leads : Graph → (from to : ℕ) → Arc → Bool
leads graph from to arc = (start_of graph arc == from) && (end_of graph arc == to)

-- the arc that leads from a zone to a zone, if a border joins them
abbrev pub arc_between : Graph → (from to : ℕ) → Option Arc
arc_between graph from to = find (leads graph from to) (arcs_of graph)

-- an arc and the zone that it leads to
abbrev pub neighbour_over : Graph → Arc → Neighbour
neighbour_over graph arc = record { arc = arc; zone = end_of graph arc }

-- the arcs that lead from a zone, by ascending border, each with the zone that it leads to
abbrev pub neighbours_of : Graph → ℕ → List Neighbour
neighbours_of graph zone = map (neighbour_over graph) (arcs_from graph zone)
