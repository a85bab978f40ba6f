use Rattle.plain_orders.specs.declared.tally.Change.TheVariants as change
use Rattle.plain_orders.proofs.Taken.{second-can}
use Rattle.plain_orders.proofs.tally.take_leg.Goals as goal

pub apply-requires-2 : goal.apply-requires-2
apply-requires-2 c =
    second-can c.args.hour c.args.leg.now.taker c.args.leg.now.maker (change.Trades c.args.leg.now.lots c.args.moment) (change.Trades c.args.leg.now.lots c.args.moment)
    c.args.tallies.now c.apply.new.tallies c.requires.apart c.apply.ensures c.apply.auto.tallies c.requires.maker
