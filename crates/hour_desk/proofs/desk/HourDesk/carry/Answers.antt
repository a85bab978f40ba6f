use Rattle.std.proofs.Common.{false, sym, subst}
use Rattle.desk_changes.specs.State.{settled_now}
use Rattle.hour_desk.specs.Insides.{IsInside}
use Rattle.hour_desk.proofs.Desks.{carried-inside}
use Rattle.hour_desk.proofs.desk.HourDesk.carry.Goals as goal

pub invariant_of-self : goal.invariant_of-self
invariant_of-self c =
    subst (λ h. IsInside h c.carry_plan.new.views false) (sym c.carry_plan.ensures.hour)
    (subst (λ v. IsInside (settled_now c.self.inside.kept) v false) (sym c.carry_plan.ensures.views)
    (carried-inside c.self.inside.kept c.self.inside.views c.self.inside.is_planned c.self.invariant))
