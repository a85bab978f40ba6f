-- What holds of each event that is put behind others, given those before it.
use Rattle.std.proofs.Common.{◌≡◌, ℕ, zero, suc, List, [], ◌∷◌, ◌++◌, Option, Some, None, refl, sym, subst}
use Rattle.std.proofs.lemmas.List.{append-nil}
use Rattle.std.proofs.Math.Seq.{append_snoc}
use Rattle.zone_graph.specs.Steps.{step_and_onward, steps}
use Rattle.market_model.specs.declared.event.Event.{Event}
use Rattle.market_model.specs.declared.setup.Setup.{Setup}
use Rattle.market_model.specs.History.{and_then}
use Rattle.market_model.specs.WellFormed.{FitAfter}
use Rattle.laws_of_market.proofs.Repeats.{fit-more}

-- something holds of each of some events behind others
abbrev pub HoldAfter : (P : List Event → Event → Type 0) → (before : List Event) → List Event → Type 0
HoldAfter P before [] = Unit {0}
HoldAfter P before (e ∷ events) = P before e × HoldAfter P (and_then before e) events

pub hold-append : (P : List Event → Event → Type 0) (before xs ys : List Event) → HoldAfter P before xs → HoldAfter P (before ++ xs) ys → HoldAfter P before (xs ++ ys)
hold-append P before [] ys holds more = subst (λ b. HoldAfter P b ys) (append-nil before) more
hold-append P before (e ∷ xs) ys holds more =
    (holds.0, hold-append P (and_then before e) xs ys holds.1 (subst (λ b. HoldAfter P b ys) (sym (append_snoc before e xs)) more))

-- of one event at its place
pub hold-at : (P : List Event → Event → Type 0) (before front : List Event) (e : Event) (back : List Event) → HoldAfter P before (front ++ (e ∷ back)) → P (before ++ front) e
hold-at P before [] e back holds = subst (λ b. P b e) (sym (append-nil before)) holds.0
hold-at P before (first ∷ front) e back holds =
    subst (λ b. P b e) (append_snoc before first front) (hold-at P (and_then before first) front e back holds.1)

-- what follows after fitting events
pub hold-fit : (setup : Setup) (P Q : List Event → Event → Type 0) → ((b : List Event) (e : Event) → FitAfter setup [] b → P b e → Q b e)
    → (before events : List Event) → FitAfter setup [] before → FitAfter setup before events → HoldAfter P before events → HoldAfter Q before events
hold-fit setup P Q each before [] fit more holds = tt
hold-fit setup P Q each before (e ∷ events) fit more holds =
    (each before e fit holds.0, hold-fit setup P Q each (and_then before e) events (fit-more setup before e fit more.0) more.1 holds.1)

-- of steps
pub hold-steps : (P : List Event → Event → Type 0) (most : ℕ) (step : List Event → Option Event) → ((b : List Event) (e : Event) → step b ≡ Some e → P b e)
    → (events : List Event) → HoldAfter P events (steps most step and_then events)
unfolding steps
hold-steps P zero step each events = tt
hold-steps P (suc most) step each events = go (λ e. hold-steps P most step each (and_then events e)) (step events) refl
  where
    go : ((e : Event) → HoldAfter P (and_then events e) (steps most step and_then (and_then events e)))
        → (o : Option Event) → step events ≡ o → HoldAfter P events (step_and_onward o (λ e. steps most step and_then (and_then events e)))
    go onward None is = tt
    go onward (Some e) is = (each events e is, onward e)
