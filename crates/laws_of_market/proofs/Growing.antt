-- What holds of a history event by event, and of one that is put behind another.
use Rattle.std.proofs.Common.{List, [], ◌∷◌, ◌++◌, sym, subst}
use Rattle.std.proofs.lemmas.List.{append-nil}
use Rattle.std.proofs.Math.Seq.{append_snoc}
use Rattle.market_model.specs.declared.event.Event.{Event}
use Rattle.market_model.specs.declared.setup.Setup.{Setup}
use Rattle.market_model.specs.History.{and_then}
use Rattle.market_model.specs.WellFormed.{FitAfter, Fits}

-- what each fitting event keeps holds of a history that grows by fitting events
pub grows : (setup : Setup) (P : List Event → Type 0) → ((before : List Event) (event : Event) → P before → Fits setup before event → P (and_then before event))
    → (before events : List Event) → FitAfter setup before events → P before → P (before ++ events)
grows setup P step before [] fit holds = subst P (sym (append-nil before)) holds
grows setup P step before (event ∷ events) fit holds =
    subst P (append_snoc before event events) (grows setup P step (and_then before event) events fit.1 (step before event holds fit.0))

-- fitting events behind fitting events fit
pub fit-append : (setup : Setup) (before xs ys : List Event) → FitAfter setup before xs → FitAfter setup (before ++ xs) ys → FitAfter setup before (xs ++ ys)
fit-append setup before [] ys fit more = subst (λ b. FitAfter setup b ys) (append-nil before) more
fit-append setup before (event ∷ xs) ys fit more =
    (fit.0, fit-append setup (and_then before event) xs ys fit.1 (subst (λ b. FitAfter setup b ys) (sym (append_snoc before event xs)) more))

-- and each part of them fits
pub fit-front : (setup : Setup) (before xs ys : List Event) → FitAfter setup before (xs ++ ys) → FitAfter setup before xs
fit-front setup before [] ys fit = tt
fit-front setup before (event ∷ xs) ys fit = (fit.0, fit-front setup (and_then before event) xs ys fit.1)

pub fit-back : (setup : Setup) (before xs ys : List Event) → FitAfter setup before (xs ++ ys) → FitAfter setup (before ++ xs) ys
fit-back setup before [] ys fit = subst (λ b. FitAfter setup b ys) (sym (append-nil before)) fit
fit-back setup before (event ∷ xs) ys fit =
    subst (λ b. FitAfter setup b ys) (append_snoc before event xs) (fit-back setup (and_then before event) xs ys fit.1)
