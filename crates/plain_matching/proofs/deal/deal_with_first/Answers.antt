use Rattle.std.proofs.Common.{subst, sym}
use Rattle.zone_graph.proofs.Places.{item_at_place}
use Rattle.plain_matching.specs.Meeting.{Meet}
use Rattle.plain_matching.proofs.deal.deal_with_first.Goals as goal

pub deal-requires : goal.deal-requires
deal-requires c = record {
  meet = subst (λ events. Meet c.args.grid.now events c.args.own.now c.other-item.result) (sym c.loop-other.invariant.same)
      (c.requires.meets.each c.other-item.result
      (item_at_place c.args.line.now c.loop-other.other-index c.other-item.result c.loop-other-test.true c.other-item.is));
}
