use Rattle.std.proofs.Common.{◌∙◌, sym}
use Rattle.flow_netting.specs.QuarterSet.{has}
use Rattle.kept_hour.proofs.FlowCalls.{can-grant, granted-kept}
use Rattle.kept_hour.proofs.hour.KeptHour.grant.Goals as goal

pub grant-requires-clause-border : goal.grant-requires-clause-border
grant-requires-clause-border c = (can-grant c.self.inside.grid.value c.self.inside.hour c.self.inside.events c.self.inside.settled c.self.inside.hand c.self.inside.numbers c.self.inside.settled_numbers c.self.inside.store c.self.invariant c.args.self.now c.self.view_is c.requires.free c.reserve.new.self c.reserve.ensures.contents c.reserve.ensures.changes c.args.arc c.args.first c.args.last c.args.lots c.requires.next).border

pub grant-requires-clause-room : goal.grant-requires-clause-room
grant-requires-clause-room c number first last inside =
    (can-grant c.self.inside.grid.value c.self.inside.hour c.self.inside.events c.self.inside.settled c.self.inside.hand c.self.inside.numbers c.self.inside.settled_numbers c.self.inside.store c.self.invariant c.args.self.now c.self.view_is c.requires.free c.reserve.new.self c.reserve.ensures.contents c.reserve.ensures.changes c.args.arc c.args.first c.args.last c.args.lots c.requires.next).room number first last (sym (c.quarters_in_range-quarters.ensures number first last) ∙ inside)

pub invariant_of-self-2 : goal.invariant_of-self-2
invariant_of-self-2 c =
    granted-kept c.self.inside.grid.value c.self.inside.hour c.self.inside.events c.self.inside.settled c.self.inside.hand c.self.inside.numbers c.self.inside.settled_numbers c.self.inside.store c.self.invariant c.args.self.now c.self.view_is c.requires.free c.reserve.new.self c.reserve.ensures.contents c.reserve.ensures.changes
    c.push.new.self c.grant.new.self c.grant.ensures.back c.grant.ensures.book c.grant.ensures.blocks c.grant.ensures.noted
    c.args.arc c.args.first c.args.last c.args.lots (has c.quarters_in_range-quarters.result) c.requires.next c.in_ok-push.ensures.ok c.quarters_in_range-quarters.ensures c.grant.ensures.flows
