use Rattle.kept_hour.proofs.FlowCalls.{gated-kept}
use Rattle.kept_hour.proofs.hour.KeptHour.gate.Goals as goal

pub invariant_of-self-2 : goal.invariant_of-self-2
invariant_of-self-2 c =
    gated-kept c.self.inside.grid.value c.self.inside.hour c.self.inside.events c.self.inside.settled c.self.inside.hand c.self.inside.numbers c.self.inside.settled_numbers c.self.inside.store c.self.invariant c.args.self.now c.self.view_is c.requires.free c.reserve.new.self c.reserve.ensures.contents c.reserve.ensures.changes
    c.push.new.self c.set_phase.new.self c.set_phase.ensures.back c.set_phase.ensures.book c.set_phase.ensures.blocks c.set_phase.ensures.noted
    c.args.phase c.requires.next c.in_ok-push.ensures.ok c.set_phase.ensures.flows
