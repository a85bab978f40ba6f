use Rattle.std.proofs.Common.{◌≡◌, map}
use Rattle.std.specs.List.{range_with_len}
use Rattle.zone_graph.specs.Grid.{neighbours_of}
use Rattle.zone_graph.specs.GridIndex.{borders_alone}
use Rattle.zone_graph.proofs.grid_parts.neighbour_rows.Given as goal

-- the rows of the zones so far
abbrev pub invariant-loop-zone : goal.invariant-loop-zone
invariant-loop-zone l = l.rows.items ≡ map (neighbours_of (borders_alone l.borders)) (range_with_len 0 l.zone)
