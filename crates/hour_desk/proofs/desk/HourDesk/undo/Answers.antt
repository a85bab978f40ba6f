use Rattle.std.proofs.Common.{false, sym, subst}
use Rattle.desk_changes.specs.State.{undone}
use Rattle.hour_desk.specs.Insides.{IsInside}
use Rattle.hour_desk.proofs.Desks.{undone-inside}
use Rattle.hour_desk.proofs.desk.HourDesk.undo.Goals as goal

pub invariant_of-self : goal.invariant_of-self
invariant_of-self c =
    subst (λ h. IsInside h c.drop_plan.new.views false) (sym c.drop_plan.ensures.hour)
    (subst (λ v. IsInside (undone c.self.inside.kept) v false) (sym c.drop_plan.ensures.views)
    (undone-inside c.self.inside.kept c.self.inside.views c.self.inside.is_planned c.self.invariant false))
