use Rattle.std.proofs.Common.{refl}
use Rattle.kept_hour.proofs.BlockCalls.{block-absent, block-fits, block-kept}
use Rattle.kept_hour.proofs.hour.KeptHour.enter_block.Goals as goal

pub rest_block-requires-clause-absent : goal.rest_block-requires-clause-absent
rest_block-requires-clause-absent c =
    block-absent c.self.inside.grid.value c.self.inside.hour c.self.inside.events c.self.inside.settled c.self.inside.hand c.self.inside.numbers c.self.inside.settled_numbers c.self.inside.store c.self.invariant c.args.self.now c.self.view_is c.requires.free c.reserve.new.self c.reserve.ensures.contents c.reserve.ensures.changes c.args.caller c.args.order.now c.requires.room c.requires.next
    c.entered_block-block.result c.self.inside.hour c.len-moment.result (c.entered_block-block.ensures c.self.inside.hour)

pub unreachable-requires : goal.unreachable-requires
unreachable-requires c = block-fits c.self.inside.grid.value c.self.inside.hour c.self.inside.events c.self.inside.settled c.self.inside.hand c.self.inside.numbers c.self.inside.settled_numbers c.self.inside.store c.self.invariant c.args.self.now c.self.view_is c.requires.free c.reserve.new.self c.reserve.ensures.contents c.reserve.ensures.changes c.args.caller c.args.order.now c.requires.room c.requires.next (c.in_default.ensures.full.0 refl)

pub invariant_of-self-2 : goal.invariant_of-self-2
invariant_of-self-2 c =
    block-kept c.self.inside.grid.value c.self.inside.hour c.self.inside.events c.self.inside.settled c.self.inside.hand c.self.inside.numbers c.self.inside.settled_numbers c.self.inside.store c.self.invariant c.args.self.now c.self.view_is c.requires.free c.reserve.new.self c.reserve.ensures.contents c.reserve.ensures.changes c.args.caller c.args.order.now c.requires.room c.requires.next
    c.push.new.self c.rest_block.new.self c.entered_block-block.result c.len-moment.result c.in_ok-push.ensures.ok c.len-moment.ensures
    (c.entered_block-block.ensures c.self.inside.hour) c.in-Ok.ensures.rests c.rest_block.ensures.back c.rest_block.ensures.noted c.rest_block.ensures.no_flow
