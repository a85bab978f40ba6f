use Rattle.std.proofs.Common.{IfSome, subst, sym}
use Rattle.plain_orders.specs.Tallies.{AreSums}
use Rattle.plain_matching.proofs.sweeping.sweep_kept.Goals as goal

pub sweep-requires-clause-summed : goal.sweep-requires-clause-summed
sweep-requires-clause-summed c =
    c.of-sums.ensures.summed c.args.grid.now c.args.events.now c.args.hour
    (subst (λ o. IfSome o (AreSums c.args.events.now c.args.hour)) (sym c.take.ensures.taken) (c.requires.summed.each c.args.hour))
