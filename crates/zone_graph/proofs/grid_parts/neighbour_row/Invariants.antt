use Rattle.std.proofs.Common.{◌≡◌}
use Rattle.zone_graph.specs.GridIndex.{borders_alone}
use Rattle.zone_graph.proofs.GridRows.{first_neighbours}
use Rattle.zone_graph.proofs.grid_parts.neighbour_row.Given as goal

-- the row has the neighbours over the borders so far
abbrev pub invariant-loop-border : goal.invariant-loop-border
invariant-loop-border l = l.row ≡ first_neighbours (borders_alone l.borders) l.zone l.border
