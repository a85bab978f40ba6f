use Rattle.local_view.specs.Kept.{part_forgotten}
use Rattle.laws_of_rows.proofs.Places.{set-next}
use Rattle.local_view.proofs.views.forget_parts.Goals as goal

pub loop-part-preserved : goal.loop-part-preserved
loop-part-preserved c =
    set-next part_forgotten c.args.parts.now c.loop-part.parts c.loop-part.part-index c.part-item.result c.forget.new.self c.loop-part-test.true c.loop-part.invariant
    c.forget.ensures
