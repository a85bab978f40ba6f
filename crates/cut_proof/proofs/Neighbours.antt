-- The neighbours of a zone, by their places.
use Rattle.std.proofs.Common.{◌≡◌, ◌<◌, ◌==◌, ℕ, Bool, List, length, get_or, refl, sym, subst, arith, eq-eqb, eqb-true}
use Rattle.zone_graph.specs.declared.route.Arc.{Arc}
use Rattle.zone_graph.specs.declared.grid.Neighbour.{Neighbour}
use Rattle.zone_graph.specs.Graph.{Graph, HasArc, HasZone, IsGraph, arcs_from, arcs_of, end_of, start_of}
use Rattle.zone_graph.specs.Grid.{IsGrid, neighbour_over, neighbours_of}
use Rattle.zone_graph.specs.Route.{IsIn}
use Rattle.zone_graph.proofs.Membership.{IsIn-filter, IsIn-map, from_filter, from_map}
use Rattle.zone_graph.proofs.Routes.{IsIn-arcs_of, end_within, from_arcs_of}
use Rattle.zone_graph.proofs.Places.{at_place}

-- a neighbour of a zone: an arc of the graph leads to it from there
pub record IsNeighbour (graph : Graph) (zone : ℕ) (neighbour : Neighbour) : Type 0 where
  pub known : HasArc graph neighbour.arc
  pub start : start_of graph neighbour.arc ≡ zone
  pub end : end_of graph neighbour.arc ≡ neighbour.zone
  pub there : HasZone graph neighbour.zone

pub neighbour_in : (graph : Graph) (zone : ℕ) (neighbour : Neighbour) → IsGraph graph → IsIn neighbour (neighbours_of graph zone) → IsNeighbour graph zone neighbour
neighbour_in graph zone neighbour is h =
    let r = from_map (neighbour_over graph) neighbour (arcs_from graph zone) h in
    let t = from_filter (λ (arc : Arc). start_of graph arc == zone) r.0 (arcs_of graph) r.1 in
    subst (IsNeighbour graph zone) (sym r.2) (record {
      known = from_arcs_of graph r.0 t.0;
      start = eqb-true (start_of graph r.0) zone t.1;
      end = refl;
      there = end_within graph r.0 is (from_arcs_of graph r.0 t.0);
    })

-- an arc that leads from a zone leads to a neighbour of it
pub neighbour_by : (graph : Graph) (zone : ℕ) (arc : Arc) → HasArc graph arc → start_of graph arc ≡ zone → IsIn (neighbour_over graph arc) (neighbours_of graph zone)
neighbour_by graph zone arc known start =
    IsIn-map (neighbour_over graph) arc (arcs_from graph zone)
    (IsIn-filter (λ (a : Arc). start_of graph a == zone) arc (arcs_of graph) (IsIn-arcs_of graph arc known) (eq-eqb (start_of graph arc) zone start))

-- the neighbour at a place
pub neighbour_at : (graph : Graph) (zone : ℕ) (neighbours : List Neighbour) (i : ℕ) (d : Neighbour) → IsGraph graph → neighbours ≡ neighbours_of graph zone
    → i < length neighbours → IsNeighbour graph zone (get_or neighbours i d)
neighbour_at graph zone neighbours i d is all within =
    neighbour_in graph zone (get_or neighbours i d) is (subst (IsIn (get_or neighbours i d)) all (at_place neighbours i d within))

-- the zone of a neighbour has a place among 64
pub neighbour_within : (graph : Graph) (zone : ℕ) (neighbours : List Neighbour) (i : ℕ) (d : Neighbour) → IsGrid graph → neighbours ≡ neighbours_of graph zone
    → i < length neighbours → (get_or neighbours i d).zone < 64
neighbour_within graph zone neighbours i d grid all within =
    omega (arith, (neighbour_at graph zone neighbours i d grid.is_graph all within).there, grid.few_zones)
