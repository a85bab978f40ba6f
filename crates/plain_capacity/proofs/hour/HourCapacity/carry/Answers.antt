use Rattle.std.proofs.Common.{◌∙◌, ap, arith, subst, sym}
use Rattle.plain_capacity.specs.Hour.{Capacity}
use Rattle.plain_capacity.specs.Rows.{CanCarry}
use Rattle.plain_capacity.proofs.HourLegs.{carried_back}
use Rattle.plain_capacity.proofs.Hours.{each}
use Rattle.plain_capacity.proofs.hour.HourCapacity.carry.Goals as goal

pub carry_in_all-requires-clause-first : goal.carry_in_all-requires-clause-first
carry_in_all-requires-clause-first c =
    subst (λ rows. CanCarry rows c.args.route.now c.args.lots) (sym (c.as_mut_slice.ensures.value ∙ ap (λ (v : Capacity). v.first) c.self.view_is))
    (c.requires 1 (omega arith) (omega arith))

pub carry_in_all-requires-clause-second : goal.carry_in_all-requires-clause-second
carry_in_all-requires-clause-second c =
    subst (λ rows. CanCarry rows c.args.route.now c.args.lots) (sym (c.as_mut_slice-2.ensures.value ∙ ap (λ (v : Capacity). v.second) c.self.view_is))
    (c.requires 2 (omega arith) (omega arith))

pub carry_in_all-requires-clause-third : goal.carry_in_all-requires-clause-third
carry_in_all-requires-clause-third c =
    subst (λ rows. CanCarry rows c.args.route.now c.args.lots) (sym (c.as_mut_slice-3.ensures.value ∙ ap (λ (v : Capacity). v.third) c.self.view_is))
    (c.requires 3 (omega arith) (omega arith))

pub carry_in_all-requires-clause-fourth : goal.carry_in_all-requires-clause-fourth
carry_in_all-requires-clause-fourth c =
    subst (λ rows. CanCarry rows c.args.route.now c.args.lots) (sym (c.as_mut_slice-4.ensures.value ∙ ap (λ (v : Capacity). v.fourth) c.self.view_is))
    (c.requires 4 (omega arith) (omega arith))

pub returns-clause-quarters : goal.returns-clause-quarters
returns-clause-quarters c =
    each _
    (carried_back c.args.route.now c.args.lots _ _ _ _ _ (c.as_mut_slice.ensures.value ∙ ap (λ (v : Capacity). v.first) c.self.view_is) c.as_mut_slice.ensures.len c.carry_in_all.ensures.first)
    (carried_back c.args.route.now c.args.lots _ _ _ _ _ (c.as_mut_slice-2.ensures.value ∙ ap (λ (v : Capacity). v.second) c.self.view_is) c.as_mut_slice-2.ensures.len c.carry_in_all.ensures.second)
    (carried_back c.args.route.now c.args.lots _ _ _ _ _ (c.as_mut_slice-3.ensures.value ∙ ap (λ (v : Capacity). v.third) c.self.view_is) c.as_mut_slice-3.ensures.len c.carry_in_all.ensures.third)
    (carried_back c.args.route.now c.args.lots _ _ _ _ _ (c.as_mut_slice-4.ensures.value ∙ ap (λ (v : Capacity). v.fourth) c.self.view_is) c.as_mut_slice-4.ensures.len c.carry_in_all.ensures.fourth)
