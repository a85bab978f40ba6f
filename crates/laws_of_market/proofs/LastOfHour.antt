-- The last event of an hour fits a history whose hour the events before it are.
use Rattle.std.proofs.Common.{◌≡◌, ◌∙◌, ℕ, Bool, true, false, cond, List, [], ◌∷◌, ◌++◌, filter, refl, ap, subst}
use Rattle.market_model.specs.declared.event.Event.{Event}
use Rattle.market_model.specs.declared.setup.Setup.{Setup}
use Rattle.market_model.specs.History.{and_then, of_hour, touches}
use Rattle.market_model.specs.WellFormed.{FitAfter, Fits}
use Rattle.laws_of_market.proofs.Growing.{fit-back, fit-front}
use Rattle.laws_of_market.proofs.LocalStates.{Agree}
use Rattle.laws_of_market.proofs.OfHours.{one-agrees}

-- where what passes a test ends with an item, the list goes on from what passes before it with the item
record EndsAt {X : Type 0} (p : X → Bool) (item : X) (all passed : List X) : Type 0 where
  front : List X
  back : List X
  is : all ≡ front ++ (item ∷ back)
  passes : filter p front ≡ passed

ends-at : {X : Type 0} (p : X → Bool) (item : X) (all passed : List X) → filter p all ≡ passed ++ item ∷ [] → EndsAt p item all passed
ends-at p item [] [] same = absurd (cc)
ends-at p item [] (x ∷ passed) same = absurd (cc)
ends-at {X} p item (y ∷ all) passed same = go (p y) refl passed same (λ more k. ends-at p item all more k)
  where
    go : (b : Bool) → p y ≡ b → (xs : List X) → cond b (y ∷ filter p all) (filter p all) ≡ xs ++ item ∷ []
        → ((more : List X) → filter p all ≡ more ++ item ∷ [] → EndsAt p item all more) → EndsAt p item (y ∷ all) xs
    go true is [] here later = let first : y ≡ item = cc in record { front = []; back = all; is = ap (λ z. z ∷ all) first; passes = refl }
    go true is (x ∷ xs) here later =
        let first : y ≡ x = cc in
        let rest : filter p all ≡ xs ++ item ∷ [] = cc in
        let ends = later xs rest in
        record {
          front = y ∷ ends.front;
          back = ends.back;
          is = ap (λ zs. y ∷ zs) ends.is;
          passes = ap (λ b. cond b (y ∷ filter p ends.front) (filter p ends.front)) is ∙ ap (λ zs. y ∷ zs) ends.passes ∙ ap (λ z. z ∷ xs) first;
        }
    go false is xs here later =
        let ends = later xs here in
        record {
          front = y ∷ ends.front;
          back = ends.back;
          is = ap (λ zs. y ∷ zs) ends.is;
          passes = ap (λ b. cond b (y ∷ filter p ends.front) (filter p ends.front)) is ∙ ends.passes;
        }

-- the history before the last event of an hour
pub record BeforeLast (setup : Setup) (hour : ℕ) (events : List Event) (e : Event) : Type 0 where
  pub history : List Event
  pub fit : FitAfter setup [] history
  pub fits : Fits setup history e
  pub in_hour : of_hour hour history ≡ events
  pub agree : Agree (hour ∷ []) events history

pub before-last : (setup : Setup) (hour : ℕ) (all events : List Event) (e : Event) → FitAfter setup [] all → of_hour hour all ≡ and_then events e → BeforeLast setup hour events e
before-last setup hour all events e fit in_hour =
    let ends = ends-at (touches hour) e all events in_hour in
    let parts : FitAfter setup [] (ends.front ++ (e ∷ ends.back)) = subst (FitAfter setup []) ends.is fit in
    let front = fit-front setup [] ends.front (e ∷ ends.back) parts in
    record {
      history = ends.front;
      fit = front;
      fits = (fit-back setup [] ends.front (e ∷ ends.back) parts).0;
      in_hour = ends.passes;
      agree = subst (λ es. Agree (hour ∷ []) es ends.front) ends.passes (one-agrees setup ends.front front hour);
    }
