use Rattle.std.proofs.Common.{subst, arith}
use Rattle.local_view.specs.Kept.{IsSized, no_part, part_adopted}
use Rattle.local_view.proofs.Parts.{sized_set, there_at}
use Rattle.laws_of_rows.proofs.Places.{set-next}
use Rattle.local_view.proofs.views.adopt_parts.Goals as goal

pub loop-part-preserved : goal.loop-part-preserved
loop-part-preserved c = record {
  are = set-next part_adopted c.args.parts.now c.loop-part.parts c.loop-part.part-index c.part-item.result c.adopt.new.self c.loop-part-test.true c.loop-part.invariant.are
      c.adopt.ensures.adopted;
  sized = λ zones sized.
      sized_set zones c.loop-part.parts c.loop-part.part-index c.adopt.new.self (omega (arith, c.loop-part-test.true, c.loop-part.auto.parts)) (c.loop-part.invariant.sized zones sized)
      (λ own. c.adopt.ensures.sized zones (subst (IsSized zones)
      (there_at c.loop-part.parts c.loop-part.part-index no_part c.part-item.result (omega (arith, c.loop-part-test.true, c.loop-part.auto.parts))) own));
}
