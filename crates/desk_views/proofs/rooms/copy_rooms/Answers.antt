use Rattle.std.proofs.Common.{◌≡◌, ◌∙◌, ◌<◌, [], get_or, length, ap, sym, arith}
use Rattle.zone_graph.proofs.Places.{at_any}
use Rattle.desk_views.proofs.Lists.{each-set}
use Rattle.desk_views.proofs.rooms.copy_rooms.Goals as goal

pub loop-part-preserved : goal.loop-part-preserved
loop-part-preserved c =
    let within : c.loop-part.part < length c.loop-part.into = omega (arith, c.loop-part-test.true, c.loop-part.auto.into) in
    let low : c.loop-part.part < 7 = omega (arith, within, c.requires.into_parts, c.loop-part.auto.into) in
    let is : c.copy_from.new.self ≡ get_or c.args.rooms.now c.loop-part.part [] =
    c.copy_from.ensures ∙ c.index-rooms-part.is ∙ at_any c.args.rooms.now c.loop-part.part c.index-rooms-part.result [] (omega (arith, low, c.requires.parts)) in
    record {
      size = λ part. each-set (λ k rooms. length rooms ≡ length (get_or c.args.into.now k [])) [] c.loop-part.into c.loop-part.part c.copy_from.new.self within
          (ap length is ∙ sym (c.requires.size c.loop-part.part low)) part
          (λ apart. c.loop-part.invariant.size part);
      same = λ part less. each-set (λ k rooms. rooms ≡ get_or c.args.rooms.now k []) [] c.loop-part.into c.loop-part.part c.copy_from.new.self within is part
          (λ apart. c.loop-part.invariant.same part (omega (arith, less, apart)));
    }
