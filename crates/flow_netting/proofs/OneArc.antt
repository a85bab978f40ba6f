-- Lots that remain on one arc in each quarter of the hour.
use Rattle.std.proofs.Common.{◌≡◌, ℕ, zero, suc, inl, inr, true, List, [], ◌∷◌, subst, sym, pos, ◌≤ℤ◌, arith}
use Rattle.zone_graph.specs.declared.route.Arc.{Arc}
use Rattle.flow_netting.specs.declared.quarter_set.QuarterSet.{QuarterSet}
use Rattle.order_kinds.specs.Period.{EachQuarter}
use Rattle.flow_netting.specs.Border.{Border}
use Rattle.flow_netting.specs.Flows.{HasLotsLeft, remaining_at}
use Rattle.flow_netting.specs.QuarterSet.{has}

-- what is true of the four quarters is true of each
pub of_four : (P : ℕ → Type 0) → P 1 → P 2 → P 3 → P 4 → EachQuarter P
of_four P one two three four zero first last = absurd (omega (arith, first))
of_four P one two three four (suc zero) first last = one
of_four P one two three four (suc (suc zero)) first last = two
of_four P one two three four (suc (suc (suc zero))) first last = three
of_four P one two three four (suc (suc (suc (suc zero)))) first last = four
of_four P one two three four (suc (suc (suc (suc (suc more))))) first last = absurd (omega (arith, last))

pub one_arc_left : (borders : List Border) (arc : Arc) (set : QuarterSet) (lots : ℕ)
    → pos lots ≤ℤ remaining_at borders arc 1 → pos lots ≤ℤ remaining_at borders arc 2 → pos lots ≤ℤ remaining_at borders arc 3 → pos lots ≤ℤ remaining_at borders arc 4
    → HasLotsLeft borders (arc ∷ []) set lots
one_arc_left borders arc set lots one two three four other (inl is) =
    subst (λ a. EachQuarter (λ number. has set number ≡ true → pos lots ≤ℤ remaining_at borders a number)) (sym is)
    (of_four _ (λ h. one) (λ h. two) (λ h. three) (λ h. four))
one_arc_left borders arc set lots one two three four other (inr i) = absurd i
