use Rattle.std.proofs.Common.{◌≡◌}
use Rattle.zone_graph.specs.Rooms.{room_of}
use Rattle.route_choice.specs.Search.{AreTaken}
use Rattle.route_choice.proofs.search.Branches.take_least_steps.Given as goal

-- the zones so far have their steps
abbrev pub invariant-loop-zone : goal.invariant-loop-zone
invariant-loop-zone l = record {
  distances : l.self.distances ≡ l.initial.self.distances;
  taken : AreTaken l.grid (room_of l.rooms) l.self.distances l.self.steps l.zone;
}
