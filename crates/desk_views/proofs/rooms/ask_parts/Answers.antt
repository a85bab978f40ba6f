use Rattle.std.proofs.Common.{◌≡◌, ◌∙◌, ◌<◌, [], get_or, length, ap, arith}
use Rattle.zone_graph.specs.declared.route.Arc.{Arc}
use Rattle.zone_graph.specs.Rooms.{room_of}
use Rattle.zone_graph.proofs.Places.{at_any}
use Rattle.desk_views.specs.Insides.{IsRoomOf}
use Rattle.desk_views.proofs.Lists.{each-set}
use Rattle.desk_views.proofs.rooms.ask_parts.Goals as goal

pub loop-part-preserved : goal.loop-part-preserved
loop-part-preserved c =
    let within : c.loop-part.part < length c.loop-part.into = omega (arith, c.loop-part-test.true, c.loop-part.auto.into) in
    let was = at_any c.loop-part.into c.loop-part.part _ [] within in
    record {
      size = λ part. each-set (λ k rooms. length rooms ≡ length (get_or c.args.into.now k [])) [] c.loop-part.into c.loop-part.part c.ask_border.new.into within
          (c.ask_border.ensures.size ∙ ap length was ∙ c.loop-part.invariant.size c.loop-part.part) part
          (λ apart. c.loop-part.invariant.size part);
      own = λ part arc less on. each-set (λ k rooms. (arc : Arc) → arc.border ≡ c.args.border → IsRoomOf c.args.hour.now.board k arc (room_of rooms arc)) [] c.loop-part.into c.loop-part.part
          c.ask_border.new.into within c.ask_border.ensures.own part
          (λ apart arc on. c.loop-part.invariant.own part arc (omega (arith, less, apart)) on) arc on;
      others = λ part arc low beside. each-set (λ k rooms. k < 7 → room_of rooms arc ≡ room_of (get_or c.args.into.now k []) arc) [] c.loop-part.into c.loop-part.part c.ask_border.new.into within
          (λ there. c.ask_border.ensures.others arc beside ∙ ap (λ row. room_of row arc) was ∙ c.loop-part.invariant.others c.loop-part.part arc there beside) part
          (λ apart there. c.loop-part.invariant.others part arc there beside) low;
    }
