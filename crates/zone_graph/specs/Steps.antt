-- One step repeated until none is left: as it is computed, and as a reader believes it.
use Rattle.std.specs.Prelude.{◌≡◌, ℕ, zero, suc, List, [], ◌∷◌, Option, Some, None}

-- nothing where there is no step, else the step and what comes after it; only what is asked for is
-- computed, so what comes after is a function
abbrev pub step_and_onward : {X : Type 0} → Option X → (X → List X) → List X
step_and_onward None onward = []
step_and_onward (Some x) onward = x ∷ onward x

-- the steps from a state on, so many at the most: what the state gives, and again in the state
-- after it
unfoldable pub steps : {S X : Type 0} → (most : ℕ) → (step : S → Option X) → (after : S → X → S) → S → List X
steps zero step after state = []
steps (suc most) step after state = step_and_onward (step state) (λ x. steps most step after (after state x))

-- a run: each item is the step of the state that the ones before it lead to, and in the state
-- after the last there is none
abbrev pub IsRun : {S X : Type 0} → (step : S → Option X) → (after : S → X → S) → S → List X → Type 0
IsRun step after state [] = step state ≡ None
IsRun step after state (x ∷ xs) = (step state ≡ Some x) × IsRun step after (after state x) xs
