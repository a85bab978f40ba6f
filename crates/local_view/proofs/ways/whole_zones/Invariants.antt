use Rattle.zone_graph.specs.Graph.{HasZone}
use Rattle.local_view.specs.Ways.{HasWays}
use Rattle.local_view.proofs.ways.whole_zones.Given as goal

-- the root is a zone, and the ways are over the grid
abbrev pub invariant-loop : goal.invariant-loop
invariant-loop l = record { root : HasZone l.grid l.root; ways : HasWays l.grid l.ways }
