use Rattle.std.proofs.Common.{below_more, arith}
use Rattle.local_view.proofs.cuts.Cuts.are_closed.Goals as goal

pub loop-border-preserved : goal.loop-border-preserved
loop-border-preserved c = below_more _ _ c.loop-border.invariant (c.close_over.ensures c.if-not-close_over.false)

pub returns : goal.returns
returns c = λ is border there. c.loop-border.invariant border (omega (arith, there, c.loop-border-test.false, c.borders-border-end.ensures.count))
