use Rattle.std.proofs.Common.{◌≡◌, ◌<◌, ◌≤◌, length}
use Rattle.zone_graph.specs.declared.route.Arc.{Arc}
use Rattle.zone_graph.specs.Rooms.{room_of}
use Rattle.flow_netting.specs.Border.{set_room}
use Rattle.flow_netting.specs.Flows.{border_at}
use Rattle.flow_netting.proofs.borders.write_over.Given as goal

-- the arcs of the borders so far have their rooms
abbrev pub invariant-loop-place : goal.invariant-loop-place
invariant-loop-place l = record {
  size : length l.into ≡ length l.borders;
  written : (arc : Arc) → arc.border < l.place → room_of l.into arc ≡ set_room l.is_open (border_at l.borders arc.border) arc.forward l.set;
  most : (arc : Arc) → arc.border < l.place → room_of l.into arc ≤ 2000000;
}
