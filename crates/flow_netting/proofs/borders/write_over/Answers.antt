use Rattle.std.proofs.Common.{◌∙◌, arith}
use Rattle.zone_graph.specs.Rooms.{room_of}
use Rattle.flow_netting.specs.Border.{set_room}
use Rattle.flow_netting.proofs.RoomLemmas.{most_more, written_more}
use Rattle.flow_netting.proofs.borders.write_over.Goals as goal

pub loop-place-preserved : goal.loop-place-preserved
loop-place-preserved c = record {
  size = c.write_border.ensures.size ∙ c.loop-place.invariant.size;
  written = λ arc so_far.
      written_more c.loop-place.place arc (room_of c.loop-place.into arc) (room_of c.write_border.new.into arc) so_far
      c.args.borders.now c.index-borders-place.result (λ border. set_room c.args.is_open border arc.forward c.args.set) (omega arith) c.index-borders-place.is
      (c.write_border.ensures.rooms arc) (c.loop-place.invariant.written arc);
  most = λ arc so_far.
      most_more c.loop-place.place arc (room_of c.loop-place.into arc) (room_of c.write_border.new.into arc) so_far
      (set_room c.args.is_open c.index-borders-place.result arc.forward c.args.set) 2000000 (c.write_border.ensures.rooms arc) (c.loop-place.invariant.most arc) (c.write_border.ensures.most arc);
}
