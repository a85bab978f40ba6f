use Rattle.kept_hour.proofs.FlowCalls.{reduce-order, reduced-kept}
use Rattle.kept_hour.proofs.hour.KeptHour.reduce.Goals as goal

pub reduce-requires-clause-order : goal.reduce-requires-clause-order
reduce-requires-clause-order c = reduce-order c.self.inside.grid.value c.self.inside.hour c.self.inside.events c.self.inside.settled c.self.inside.hand c.self.inside.numbers c.self.inside.settled_numbers c.self.inside.store c.self.invariant c.args.self.now c.self.view_is c.requires.free c.reserve.new.self c.reserve.ensures.contents c.reserve.ensures.changes c.args.part c.args.number c.args.by c.requires.next c.requires.part

pub invariant_of-self-2 : goal.invariant_of-self-2
invariant_of-self-2 c =
    reduced-kept c.self.inside.grid.value c.self.inside.hour c.self.inside.events c.self.inside.settled c.self.inside.hand c.self.inside.numbers c.self.inside.settled_numbers c.self.inside.store c.self.invariant c.args.self.now c.self.view_is c.requires.free c.reserve.new.self c.reserve.ensures.contents c.reserve.ensures.changes
    c.push.new.self c.reduce.new.self c.reduce.ensures.back
    c.args.number c.args.by c.requires.next c.in_ok-push.ensures.ok c.reduce.ensures.reduced
    c.args.part c.requires.part (c.reduce.ensures.noted, c.reduce.ensures.no_flow)
