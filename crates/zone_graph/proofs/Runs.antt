-- Runs of steps: there is one from each state at the most, and steps with enough fuel are it.
use Rattle.std.proofs.Common.{◌≡◌, ℕ, zero, suc, ◌<◌, ◌≤◌, List, [], ◌∷◌, length, Option, Some, None, refl, sym, ap, ◌∙◌, arith}
use Rattle.zone_graph.specs.Steps.{IsRun, step_and_onward, steps}

-- from a state there is one run at the most
pub run-unique : {S X : Type 0} (step : S → Option X) (after : S → X → S) (state : S) (xs ys : List X)
    → IsRun step after state xs → IsRun step after state ys → xs ≡ ys
run-unique step after state [] [] none none' = refl
run-unique step after state [] (y ∷ ys) none some = cc (sym none ∙ some.0)
run-unique step after state (x ∷ xs) [] some none = cc (sym none ∙ some.0)
run-unique step after state (x ∷ xs) (y ∷ ys) some some' =
    let same : x ≡ y = cc (sym some.0 ∙ some'.0) in
    let tail : IsRun step after (after state x) ys = rw same some'.1 in
    let rest : xs ≡ ys = run-unique step after (after state x) xs ys some.1 tail in cc

-- steps with as much fuel as the run is long are the run
pub steps-run : {S X : Type 0} (most : ℕ) (step : S → Option X) (after : S → X → S) (state : S) (xs : List X)
    → IsRun step after state xs → length xs ≤ most → steps most step after state ≡ xs
unfolding steps
steps-run zero step after state [] none short = refl
steps-run zero step after state (x ∷ xs) run short = absurd (omega arith)
steps-run (suc most) step after state [] none short = rw none refl
steps-run (suc most) step after state (x ∷ xs) run short =
    rw run.0 (ap (λ rest. x ∷ rest) (steps-run most step after (after state x) xs run.1 (omega arith)))

-- steps are a run where each of them lowers a measure that the fuel covers
pub run-measured : {S X : Type 0} (most : ℕ) (step : S → Option X) (after : S → X → S) (measure : S → ℕ) (state : S)
    → ((state : S) (x : X) → step state ≡ Some x → measure (after state x) < measure state)
    → measure state ≤ most → IsRun step after state (steps most step after state)
unfolding steps
run-measured {S} {X} zero step after measure state falls enough = go (step state) refl
  where
    go : (next : Option X) → step state ≡ next → step state ≡ None
    go None is = is
    go (Some x) is = let less : measure (after state x) < measure state = falls state x is in absurd (omega arith)
run-measured {S} {X} (suc most) step after measure state falls enough =
    go (λ x less. run-measured most step after measure (after state x) falls less) (step state) refl
  where
    go : ((x : X) → measure (after state x) ≤ most → IsRun step after (after state x) (steps most step after (after state x)))
        → (next : Option X) → step state ≡ next
        → IsRun step after state (step_and_onward next (λ x. steps most step after (after state x)))
    go onward None is = is
    go onward (Some x) is =
        let less : measure (after state x) < measure state = falls state x is in (is, onward x (omega arith))
