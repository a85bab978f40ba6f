use Rattle.std.proofs.Common.{◌≡◌, refl, sym, subst, arith}
use Rattle.order_kinds.specs.Contract.{covers, part_at}
use Rattle.laws_of_hours.specs.Standing.{IsSetOf}
use Rattle.flow_netting.specs.QuarterSet.{has}
use Rattle.flow_netting.proofs.OneArc.{of_four}
use Rattle.kept_hour.proofs.parts.quarters_of.Goals as goal

pub returns-in-1 : goal.returns-in-1
returns-in-1 c =
    let is : c.args.number ≡ 1 = omega arith in
    subst (λ n. IsSetOf (record { 0 = 1 }) (part_at n)) (sym is) (of_four (λ q. has (record { 0 = 1 }) q ≡ covers (part_at 1) q) refl refl refl refl)

pub returns-in-2 : goal.returns-in-2
returns-in-2 c =
    let is : c.args.number ≡ 2 = omega arith in
    subst (λ n. IsSetOf (record { 0 = 2 }) (part_at n)) (sym is) (of_four (λ q. has (record { 0 = 2 }) q ≡ covers (part_at 2) q) refl refl refl refl)

pub returns-in-3 : goal.returns-in-3
returns-in-3 c =
    let is : c.args.number ≡ 3 = omega arith in
    subst (λ n. IsSetOf (record { 0 = 4 }) (part_at n)) (sym is) (of_four (λ q. has (record { 0 = 4 }) q ≡ covers (part_at 3) q) refl refl refl refl)

pub returns-in-4 : goal.returns-in-4
returns-in-4 c =
    let is : c.args.number ≡ 4 = omega arith in
    subst (λ n. IsSetOf (record { 0 = 8 }) (part_at n)) (sym is) (of_four (λ q. has (record { 0 = 8 }) q ≡ covers (part_at 4) q) refl refl refl refl)

pub returns-in-5 : goal.returns-in-5
returns-in-5 c =
    let is : c.args.number ≡ 5 = omega arith in
    subst (λ n. IsSetOf (record { 0 = 3 }) (part_at n)) (sym is) (of_four (λ q. has (record { 0 = 3 }) q ≡ covers (part_at 5) q) refl refl refl refl)

pub returns-in_default : goal.returns-in_default
returns-in_default c =
    let is : c.args.number ≡ 6 = omega arith in
    subst (λ n. IsSetOf (record { 0 = 12 }) (part_at n)) (sym is) (of_four (λ q. has (record { 0 = 12 }) q ≡ covers (part_at 6) q) refl refl refl refl)
