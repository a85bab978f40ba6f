use Rattle.std.proofs.Common.{subst, sym}
use Rattle.zone_graph.proofs.Places.{item_at_place}
use Rattle.plain_matching.specs.Meeting.{MeetsAll}
use Rattle.plain_matching.proofs.block_matching.deal_of_first.Goals as goal

pub deal_with_first-requires : goal.deal_with_first-requires
deal_with_first-requires c = record {
  meets = subst (λ events. MeetsAll c.args.grid.now events c.buy-item.result c.args.sells.now) (sym c.loop-buy.invariant.same)
      (c.requires.meet.each c.buy-item.result
      (item_at_place c.args.buys.now c.loop-buy.buy-index c.buy-item.result c.loop-buy-test.true c.buy-item.is));
}
