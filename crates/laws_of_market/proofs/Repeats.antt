-- Steps that each fit the events before them fit together.
use Rattle.std.proofs.Common.{◌≡◌, ◌∙◌, ℕ, zero, suc, ◌<◌, ◌≤◌, List, [], ◌∷◌, ◌++◌, append_assoc, flat_map, fold, Option, Some, None, refl, sym, subst, arith}
use Rattle.std.proofs.lemmas.List.{append-nil}
use Rattle.std.proofs.Math.Seq.{append_snoc}
use Rattle.std.specs.Option.{option_and_then, option_map}
use Rattle.zone_graph.specs.Steps.{IsRun, step_and_onward, steps}
use Rattle.market_model.specs.declared.event.Event.{Event}
use Rattle.market_model.specs.declared.setup.Setup.{Setup}
use Rattle.market_model.specs.History.{and_then}
use Rattle.market_model.specs.WellFormed.{FitAfter, Fits}
use Rattle.laws_of_market.proofs.Growing.{fit-append}

-- one more fitting event
pub fit-more : (setup : Setup) (events : List Event) (e : Event) → FitAfter setup [] events → Fits setup events e → FitAfter setup [] (and_then events e)
fit-more setup events e fit fits = fit-append setup [] events (e ∷ []) fit (fits, tt)

pub steps-fit : (setup : Setup) (most : ℕ) (step : List Event → Option Event)
    → ((events : List Event) (e : Event) → FitAfter setup [] events → step events ≡ Some e → Fits setup events e)
    → (events : List Event) → FitAfter setup [] events → FitAfter setup events (steps most step and_then events)
unfolding steps
steps-fit setup zero step each events fit = tt
steps-fit setup (suc most) step each events fit =
    go (λ e more. steps-fit setup most step each (and_then events e) more) (step events) refl
  where
    go : ((e : Event) → FitAfter setup [] (and_then events e) → FitAfter setup (and_then events e) (steps most step and_then (and_then events e)))
        → (o : Option Event) → step events ≡ o → FitAfter setup events (step_and_onward o (λ e. steps most step and_then (and_then events e)))
    go onward None is = tt
    go onward (Some e) is = let fits = each events e fit is in (fits, onward e (fit-more setup events e fit fits))

-- steps that keep something and lower a measure that the fuel covers are a run
pub run-kept : {S X : Type 0} (most : ℕ) (step : S → Option X) (after : S → X → S) (measure : S → ℕ) (Kept : S → Type 0)
    → ((state : S) (x : X) → Kept state → step state ≡ Some x → Kept (after state x) × (measure (after state x) < measure state))
    → (state : S) → Kept state → measure state ≤ most → IsRun step after state (steps most step after state)
unfolding steps
run-kept {S} {X} zero step after measure Kept falls state kept enough = go (step state) refl
  where
    go : (next : Option X) → step state ≡ next → step state ≡ None
    go None is = is
    go (Some x) is = let less = falls state x kept is in absurd (omega (arith, less.1))
run-kept {S} {X} (suc most) step after measure Kept falls state kept enough =
    go (λ x k less. run-kept most step after measure Kept falls (after state x) k less) (step state) refl
  where
    go : ((x : X) → Kept (after state x) → measure (after state x) ≤ most → IsRun step after (after state x) (steps most step after (after state x)))
        → (next : Option X) → step state ≡ next
        → IsRun step after state (step_and_onward next (λ x. steps most step after (after state x)))
    go onward None is = is
    go onward (Some x) is = let less = falls state x kept is in (is, onward x less.0 (omega (arith, less.1)))

-- what a choice that depends on another one comes from
pub bind-some : {A B : Type 0} (f : A → Option B) (o : Option A) (b : B) → option_and_then f o ≡ Some b → (a : A) × (o ≡ Some a) × (f a ≡ Some b)
bind-some f None b e = absurd (cc)
bind-some f (Some a) b e = (a, refl, e)

pub map-some : {A B : Type 0} (f : A → B) (o : Option A) (b : B) → option_map f o ≡ Some b → (a : A) × (o ≡ Some a) × (f a ≡ b)
map-some f None b e = absurd (cc)
map-some f (Some a) b e = let same : f a ≡ b = cc in (a, refl, same)

-- what each step keeps holds where the steps end
pub steps-keep : {S X : Type 0} (most : ℕ) (step : S → Option X) (after : S → X → S) (Kept : S → Type 0)
    → ((state : S) (x : X) → Kept state → step state ≡ Some x → Kept (after state x))
    → (state : S) → Kept state → Kept (fold after state (steps most step after state))
unfolding steps
steps-keep zero step after Kept each state kept = kept
steps-keep {S} {X} (suc most) step after Kept each state kept =
    go (λ x k. steps-keep most step after Kept each (after state x) k) (step state) refl
  where
    go : ((x : X) → Kept (after state x) → Kept (fold after (after state x) (steps most step after (after state x))))
        → (next : Option X) → step state ≡ next
        → Kept (fold after state (step_and_onward next (λ x. steps most step after (after state x))))
    go onward None is = kept
    go onward (Some x) is = onward x (each state x kept is)

-- events put behind a history one by one are put behind it
pub fold-and_then : (events more : List Event) → fold and_then events more ≡ events ++ more
fold-and_then events [] = sym (append-nil events)
fold-and_then events (e ∷ more) = fold-and_then (and_then events e) more ∙ append_snoc events e more

-- the same of deals of several events each
pub fold-deals : (events : List Event) (deals : List (List Event)) → fold (λ history deal. history ++ deal) events deals ≡ events ++ flat_map (λ deal. deal) deals
fold-deals events [] = sym (append-nil events)
fold-deals events (deal ∷ deals) = fold-deals (events ++ deal) deals ∙ append_assoc events deal (flat_map (λ deal. deal) deals)

-- what each step keeps holds of the history with the steps behind it
pub history-keep : (most : ℕ) (step : List Event → Option Event) (Kept : List Event → Type 0)
    → ((events : List Event) (e : Event) → Kept events → step events ≡ Some e → Kept (and_then events e))
    → (events : List Event) → Kept events → Kept (events ++ steps most step and_then events)
history-keep most step Kept each events kept =
    subst Kept (fold-and_then events (steps most step and_then events)) (steps-keep most step and_then Kept each events kept)

-- the state that a run ends in has no next step
pub run-end : {S X : Type 0} (step : S → Option X) (after : S → X → S) (state : S) (xs : List X) → IsRun step after state xs → step (fold after state xs) ≡ None
run-end step after state [] run = run
run-end step after state (x ∷ xs) run = run-end step after (after state x) xs run.1
