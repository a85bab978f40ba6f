use Rattle.std.proofs.Common.{◌<◌, length, arith}
use Rattle.desk_changes.proofs.Making.{deal-closes, deal-follows}
use Rattle.desk_changes.proofs.dealing.make_all.Goals as goal

pub make_deal-requires-clause-next : goal.make_deal-requires-clause-next
make_deal-requires-clause-next c =
    let within : c.loop-deal.deal-index < length c.args.deals.now = omega arith in
    deal-follows c.args.first c.args.last c.args.deals.now c.loop-deal.deal-index within c.deal-item.result _ c.deal-item.is c.loop-deal.hour c.loop-deal.invariant.next

pub make_deal-requires-clause-whole : goal.make_deal-requires-clause-whole
make_deal-requires-clause-whole c = λ here.
    let within : c.loop-deal.deal-index < length c.args.deals.now = omega arith in
    deal-closes c.args.first c.args.last c.args.deals.now c.loop-deal.deal-index within c.deal-item.result _ c.deal-item.is c.loop-deal.hour.board.events (c.loop-deal.invariant.whole here)
