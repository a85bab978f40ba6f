use Rattle.std.proofs.Common.{inl, inr, subst, ap, arith}
use Rattle.zone_graph.specs.Route.{IsIn}
use Rattle.zone_graph.proofs.InOrder.{from_put_in_order}
use Rattle.block_book.specs.declared.block.RestingBlock.{RestingBlock}
use Rattle.block_book.specs.Blocks.{number_cmp}
use Rattle.tests_of_matching.proofs.deal_tests.book_of.Goals as goal

pub loop-row-preserved : goal.loop-row-preserved
loop-row-preserved g c = λ block i.
    let rests = c.in-Ok.ensures.rests in
    elim (from_put_in_order number_cmp block c.loop-row.book _ (subst (IsIn block) rests i)) [
      | inl same ↦ let zone = ap (λ (b : RestingBlock). b.zone) same in omega (arith, zone, c.if-block-ge4.false)
      | inr j ↦ c.loop-row.invariant block j
    ]
