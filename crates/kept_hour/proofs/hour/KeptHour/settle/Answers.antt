use Rattle.std.proofs.Common.{◌≡◌, None, sym, subst}
use Rattle.kept_hour.specs.Kept.{IsKept, hour_of}
use Rattle.kept_hour.proofs.Keeping.{settled-kept}
use Rattle.kept_hour.proofs.Wrapped.{to-own}
use Rattle.kept_hour.proofs.hour.KeptHour.settle.Goals as goal

pub invariant_of-self : goal.invariant_of-self
invariant_of-self c =
    subst (λ n. IsKept (hour_of c.self.inside.grid.value c.self.inside.hour c.self.inside.events n c.self.inside.hand) n c.self.inside.numbers c.self.inside.numbers c.settle.new.self)
    (sym c.len-self-inside.ensures)
    (settled-kept c.self.inside.grid.value c.self.inside.hour c.self.inside.events c.self.inside.settled c.self.inside.hand c.self.inside.numbers c.self.inside.settled_numbers c.self.inside.store c.self.invariant
    c.settle.new.self (to-own c.self.inside.grid.value c.self.inside.hour c.self.inside.events c.self.inside.settled c.self.inside.hand c.self.inside.numbers c.self.inside.settled_numbers c.self.inside.store c.self.invariant c.args.self.now c.self.view_is (λ h. h.board.hand ≡ None) c.requires.free)
    c.settle.ensures.contents c.settle.ensures.settled)
