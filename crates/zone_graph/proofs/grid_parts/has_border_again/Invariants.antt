use Rattle.std.proofs.Common.{◌≡◌, length}
use Rattle.zone_graph.specs.Grid.{same_ends}
use Rattle.zone_graph.specs.GridFault.{has_again}
use Rattle.zone_graph.proofs.grid_parts.has_border_again.Given as goal

-- what stands again in all borders stands again in the rest
abbrev pub invariant-loop-border : goal.invariant-loop-border
invariant-loop-border l = has_again same_ends l.borders ≡ has_again same_ends l.rest

abbrev pub decreases-loop-border : goal.decreases-loop-border
decreases-loop-border l = length l.rest
