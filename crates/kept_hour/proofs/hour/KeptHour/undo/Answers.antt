use Rattle.std.proofs.Common.{None, sym, subst}
use Rattle.kept_hour.specs.Kept.{IsKept, hour_of}
use Rattle.kept_hour.proofs.Keeping.{undone-kept}
use Rattle.kept_hour.proofs.hour.KeptHour.undo.Goals as goal

pub invariant_of-self : goal.invariant_of-self
invariant_of-self c =
    subst (λ es. IsKept (hour_of c.self.inside.grid.value c.self.inside.hour es c.self.inside.settled None) c.self.inside.settled c.self.inside.settled_numbers
    c.self.inside.settled_numbers c.undo.new.self) (sym c.cut.ensures)
    (undone-kept c.self.inside.grid.value c.self.inside.hour c.self.inside.events c.self.inside.settled c.self.inside.hand c.self.inside.numbers c.self.inside.settled_numbers c.self.inside.store c.self.invariant
    c.undo.new.self (c.undo.ensures.back c.self.invariant.keeps.target c.self.invariant.keeps.back) c.undo.ensures.settled)
