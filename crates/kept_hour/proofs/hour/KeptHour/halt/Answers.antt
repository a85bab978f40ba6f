use Rattle.kept_hour.proofs.FlowCalls.{can-halt, halted-kept}
use Rattle.kept_hour.proofs.hour.KeptHour.halt.Goals as goal

pub set_halted-requires-clause-border : goal.set_halted-requires-clause-border
set_halted-requires-clause-border c = can-halt c.self.inside.grid.value c.self.inside.hour c.self.inside.events c.self.inside.settled c.self.inside.hand c.self.inside.numbers c.self.inside.settled_numbers c.self.inside.store c.self.invariant c.args.self.now c.self.view_is c.requires.free c.reserve.new.self c.reserve.ensures.contents c.reserve.ensures.changes c.args.border c.args.first c.args.last c.requires.next

pub invariant_of-self-2 : goal.invariant_of-self-2
invariant_of-self-2 c =
    halted-kept c.self.inside.grid.value c.self.inside.hour c.self.inside.events c.self.inside.settled c.self.inside.hand c.self.inside.numbers c.self.inside.settled_numbers c.self.inside.store c.self.invariant c.args.self.now c.self.view_is c.requires.free c.reserve.new.self c.reserve.ensures.contents c.reserve.ensures.changes
    c.push.new.self c.set_halted.new.self c.set_halted.ensures.back c.set_halted.ensures.book c.set_halted.ensures.blocks c.set_halted.ensures.noted
    c.args.border c.args.first c.args.last c.requires.next c.in_ok-push.ensures.ok c.set_halted.ensures.flows
