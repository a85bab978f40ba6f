use Rattle.std.proofs.Common.{◌≡◌, ◌<◌, length}
use Rattle.zone_graph.specs.declared.route.Arc.{Arc}
use Rattle.zone_graph.specs.Graph.{border_count}
use Rattle.zone_graph.specs.Rooms.{room_of}
use Rattle.plain_capacity.specs.Hour.{part_room}
use Rattle.plain_capacity.proofs.hour.HourCapacity.rooms.Given as goal

-- the arcs over the borders so far have their rooms
abbrev pub invariant-loop-border : goal.invariant-loop-border
invariant-loop-border l = record {
  size : length l.rooms ≡ border_count l.grid;
  written : (arc : Arc) → arc.border < l.border → room_of l.rooms arc ≡ part_room l.self l.part arc;
}
