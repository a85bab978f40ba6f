use Rattle.std.proofs.Common.{◌∙◌, sym}
use Rattle.flow_netting.specs.QuarterSet.{has}
use Rattle.kept_hour.proofs.FlowCalls.{can-offer, offered-kept}
use Rattle.kept_hour.proofs.hour.KeptHour.offer.Goals as goal

pub offer-requires-clause-border : goal.offer-requires-clause-border
offer-requires-clause-border c = (can-offer c.self.inside.grid.value c.self.inside.hour c.self.inside.events c.self.inside.settled c.self.inside.hand c.self.inside.numbers c.self.inside.settled_numbers c.self.inside.store c.self.invariant c.args.self.now c.self.view_is c.requires.free c.reserve.new.self c.reserve.ensures.contents c.reserve.ensures.changes c.args.arc c.args.first c.args.last c.args.lots c.requires.next).border

pub offer-requires-clause-most : goal.offer-requires-clause-most
offer-requires-clause-most c = (can-offer c.self.inside.grid.value c.self.inside.hour c.self.inside.events c.self.inside.settled c.self.inside.hand c.self.inside.numbers c.self.inside.settled_numbers c.self.inside.store c.self.invariant c.args.self.now c.self.view_is c.requires.free c.reserve.new.self c.reserve.ensures.contents c.reserve.ensures.changes c.args.arc c.args.first c.args.last c.args.lots c.requires.next).most

pub offer-requires-clause-covers : goal.offer-requires-clause-covers
offer-requires-clause-covers c number first last inside =
    (can-offer c.self.inside.grid.value c.self.inside.hour c.self.inside.events c.self.inside.settled c.self.inside.hand c.self.inside.numbers c.self.inside.settled_numbers c.self.inside.store c.self.invariant c.args.self.now c.self.view_is c.requires.free c.reserve.new.self c.reserve.ensures.contents c.reserve.ensures.changes c.args.arc c.args.first c.args.last c.args.lots c.requires.next).covers number first last (sym (c.quarters_in_range-quarters.ensures number first last) ∙ inside)

pub invariant_of-self-2 : goal.invariant_of-self-2
invariant_of-self-2 c =
    offered-kept c.self.inside.grid.value c.self.inside.hour c.self.inside.events c.self.inside.settled c.self.inside.hand c.self.inside.numbers c.self.inside.settled_numbers c.self.inside.store c.self.invariant c.args.self.now c.self.view_is c.requires.free c.reserve.new.self c.reserve.ensures.contents c.reserve.ensures.changes
    c.push.new.self c.offer.new.self c.offer.ensures.back c.offer.ensures.book c.offer.ensures.blocks c.offer.ensures.noted
    c.args.arc c.args.first c.args.last c.args.lots (has c.quarters_in_range-quarters.result) c.requires.next c.in_ok-push.ensures.ok c.quarters_in_range-quarters.ensures c.offer.ensures.flows
