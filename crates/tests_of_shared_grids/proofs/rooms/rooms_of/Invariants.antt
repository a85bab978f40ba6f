use Rattle.std.proofs.Common.{◌≡◌, length}
use Rattle.zone_graph.specs.Graph.{border_count}
use Rattle.tests_of_shared_grids.proofs.rooms.rooms_of.Given as goal

-- the rooms have the grid's size
abbrev pub invariant-loop-border : goal.invariant-loop-border
invariant-loop-border l = record { rooms : length l.rooms ≡ border_count l.grid; borders : l.borders ≡ border_count l.grid }
