use Rattle.kept_hour.proofs.Wrapped.{hand-withdrawn}
use Rattle.kept_hour.proofs.hour.KeptHour.withdraw_hand.Goals as goal

pub invariant_of-self-2 : goal.invariant_of-self-2
invariant_of-self-2 c =
    hand-withdrawn c.self.inside.grid.value c.self.inside.hour c.self.inside.events c.self.inside.settled c.self.inside.hand c.self.inside.numbers c.self.inside.settled_numbers c.self.inside.store c.self.invariant c.args.self.now c.self.view_is
    c.in-Some.number c.args.lots c.in-Some.is c.requires.next c.push.new.self c.in_ok-push.ensures.ok
