use Rattle.std.proofs.Common.{◌<◌, length, ◌∙◌, arith, rules}
use Rattle.disk_model.proofs.Filling.{fill_more}
use Rattle.disk_model.proofs.ram_disk.fill_spans.Goals as goal

pub loop-span-preserved : goal.loop-span-preserved
loop-span-preserved c =
    let within : c.loop-span.span-index < length c.args.spans.now = omega arith in
    let more = fill_more c.args.fill c.args.spans.now c.loop-span.span-index _ c.loop-span.image.items c.reserve.new.self.items c.put_at.new.bytes.items c.args.image.now.items c.deref.result.now
    within c.reserve.ensures.items (c.deref.ensures.value ∙ c.in_ok-piece.ensures.items_if_clones_equal (search rules)) c.put_at.ensures.items c.loop-span.invariant.begin c.loop-span.invariant.rest in
    record { begin = more.0; rest = more.1 }
