use Rattle.zone_graph.proofs.Places.{item_at_place}
use Rattle.plain_matching.proofs.sweeping.first_leg.Goals as goal

pub leg_of_buy-requires-clause-buy : goal.leg_of_buy-requires-clause-buy
leg_of_buy-requires-clause-buy c =
    c.requires.buys.each c.buy-item.result (item_at_place c.args.buys.now c.loop-buy.buy-index c.buy-item.result c.loop-buy-test.true c.buy-item.is)

pub leg_of_buy-requires-clause-side : goal.leg_of_buy-requires-clause-side
leg_of_buy-requires-clause-side c =
    c.requires.sides.each c.buy-item.result (item_at_place c.args.buys.now c.loop-buy.buy-index c.buy-item.result c.loop-buy-test.true c.buy-item.is)
