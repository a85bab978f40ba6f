use Rattle.std.proofs.Common.{◌≡◌, arith, length}
use Rattle.std.proofs.lemmas.List.{length-map}
use Rattle.block_match.specs.Market.{deal_events, leg_event}
use Rattle.joint_plan.proofs.Lists.{flat_map-upto}
use Rattle.joint_plan.proofs.parts.legs_in.Goals as goal

pub overflow_add-legs : goal.overflow_add-legs
overflow_add-legs c =
    let deal = c.deal-item.result in
    let own : length (deal_events c.args.first c.args.last deal) ≡ length deal.legs = length-map deal.legs (leg_event c.args.first c.args.last deal) in
    let upto = flat_map-upto (deal_events c.args.first c.args.last) c.args.deals.now c.loop-deal.deal-index deal (omega arith) c.deal-item.is in
    omega (arith, own, upto, c.len-legs.ensures, c.loop-deal.invariant, c.requires, c.ranges.most)
