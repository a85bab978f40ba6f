-- What passes the tests of a grid is a graph of a market.
use Rattle.std.proofs.Common.{◌≡◌, ◌==◌, ℕ, Bool, true, false, if◌then◌else◌, Option, None, Some, nat_lt, refl}
use Rattle.std.proofs.lemmas.Bool.{eqb-false}
use Rattle.zone_graph.specs.declared.grid.GridFault.{GridFault}
use Rattle.zone_graph.specs.declared.grid.GridFault.TheVariants as fault
use Rattle.zone_graph.specs.Graph.{Graph, IsGraph, border_count, ends_of, most_borders, most_zones, zone_count}
use Rattle.zone_graph.specs.Grid.{JoinsZones, same_ends, same_name}
use Rattle.zone_graph.specs.GridFault.{grid_fault, has_again, has_self_border}
use Rattle.zone_graph.proofs.Again.{none_at}

-- a graph that joins its zones and has no fault is one
pub makes-graph : (graph : Graph) → JoinsZones graph → grid_fault graph ≡ None → IsGraph graph
makes-graph graph joins sound = record {
  within = joins;
  apart = λ border within. eqb-false (ends_of graph border).0 (ends_of graph border).1
      (none_at (λ (ends : ℕ × ℕ). ends.0 == ends.1) graph.borders (0, 0)
      (no-loops (nat_lt most_zones (zone_count graph)) (has_again same_name graph.zones) (nat_lt most_borders (border_count graph)) (has_self_border graph.borders) sound) border within);
}
  where
    no-loops : (zones names borders loops : Bool)
        → (if zones then Some fault.TooManyZones
        else (if names then Some fault.ZoneTwice
        else (if borders then Some fault.TooManyBorders
        else (if loops then Some fault.SelfBorder
        else (if has_again same_ends graph.borders then Some fault.BorderTwice
        else None))))) ≡ None → loops ≡ false
    no-loops true names borders loops e = cc
    no-loops false true borders loops e = cc
    no-loops false false true loops e = cc
    no-loops false false false true e = cc
    no-loops false false false false e = refl
