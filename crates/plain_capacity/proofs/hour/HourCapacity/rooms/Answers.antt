use Rattle.std.proofs.Common.{◌∙◌}
use Rattle.zone_graph.specs.Rooms.{room_of}
use Rattle.plain_capacity.specs.Hour.{part_room}
use Rattle.plain_capacity.proofs.RoomLemmas.{written_more}
use Rattle.plain_capacity.proofs.hour.HourCapacity.rooms.Goals as goal

pub loop-border-preserved : goal.loop-border-preserved
loop-border-preserved c = record {
  size = c.write_rooms.ensures.size ∙ c.loop-border.invariant.size;
  written = λ arc so_far.
      written_more c.loop-border.border arc.border (room_of c.write_rooms.new.rooms arc) (room_of c.loop-border.rooms arc) (part_room c.args.self.now c.args.part arc)
      (c.write_rooms.ensures.rooms arc) (c.loop-border.invariant.written arc) so_far;
}
