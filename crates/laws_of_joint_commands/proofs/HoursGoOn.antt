-- A history that goes on does so in each of its hours.
use Rattle.std.proofs.Common.{◌≡◌, ◌∙◌, ℕ, Bool, true, false, cond, List, [], ◌∷◌, ◌++◌, append_assoc, filter, refl, sym, ap, subst}
use Rattle.std.proofs.lemmas.List.Elements.{filter-append}
use Rattle.market_model.specs.declared.event.Event.{Event}
use Rattle.market_model.specs.declared.setup.Setup.{Setup}
use Rattle.market_model.specs.Board.{IsHourOf}
use Rattle.market_model.specs.Grid.{graph_of}
use Rattle.market_model.specs.History.{of_hour, touches}
use Rattle.market_model.specs.WellFormed.{FitAfter, IsMarketSetup}
use Rattle.laws_of_market.proofs.Growing.{fit-front}
use Rattle.laws_of_market.proofs.Replies.{reply-history}
use Rattle.laws_of_joint_commands.specs.ByHour.{hour_events}
use Rattle.laws_of_joint_commands.specs.GoingOn.{FittingEventsGoOnInHours, GoesOnInHours, RepliesGoOnInHours}

-- a first part of what passes a test is what passes it of a first part
record IsPassedBy {X : Type 0} (p : X → Bool) (xs some : List X) : Type 0 where
  front : List X
  back : List X
  whole : xs ≡ front ++ back
  passed : filter p front ≡ some

passed-front : {X : Type 0} (p : X → Bool) (xs some rest : List X) → filter p xs ≡ some ++ rest → IsPassedBy p xs some
passed-front p xs [] rest is = record { front = []; back = xs; whole = refl; passed = refl }
passed-front p [] (y ∷ some) rest is = absurd (cc)
passed-front {X} p (x ∷ xs) (y ∷ some) rest is = go (p x) refl is (λ ys. passed-front p xs ys rest)
  where
    more : (own : p x ≡ true) (ys : List X) → IsPassedBy p xs ys → IsPassedBy p (x ∷ xs) (x ∷ ys)
    more own ys from = record {
      front = x ∷ from.front;
      back = from.back;
      whole = ap (λ zs. x ∷ zs) from.whole;
      passed = ap (λ t. cond t (x ∷ filter p from.front) (filter p from.front)) own ∙ ap (λ zs. x ∷ zs) from.passed;
    }

    past : (own : p x ≡ false) (ys : List X) → IsPassedBy p xs ys → IsPassedBy p (x ∷ xs) ys
    past own ys from = record {
      front = x ∷ from.front;
      back = from.back;
      whole = ap (λ zs. x ∷ zs) from.whole;
      passed = ap (λ t. cond t (x ∷ filter p from.front) (filter p from.front)) own ∙ from.passed;
    }

    go : (t : Bool) → p x ≡ t → cond t (x ∷ filter p xs) (filter p xs) ≡ (y ∷ some) ++ rest
        → ((ys : List X) → filter p xs ≡ ys ++ rest → IsPassedBy p xs ys) → IsPassedBy p (x ∷ xs) (y ∷ some)
    go true own k onward =
        let same : x ≡ y = cc in
        let tail : filter p xs ≡ some ++ rest = cc in
        subst (λ z. IsPassedBy p (x ∷ xs) (z ∷ some)) same (more own some (onward some tail))
    go false own k onward = past own (y ∷ some) (onward (y ∷ some) k)

module _ (setup : Setup) (history more : List Event) (is_setup : IsMarketSetup setup) (fit : FitAfter setup [] (history ++ more)) where
  hours-part : (hour : ℕ) (some rest : List Event) → of_hour hour more ≡ some ++ rest → IsHourOf (graph_of setup) hour (of_hour hour history ++ some)
  hours-part hour some rest is =
      let from = passed-front (touches hour) more some rest is in
      record {
        setup = setup;
        history = history ++ from.front;
        over_grid = refl;
        is_setup = is_setup;
        fit = fit-front setup [] (history ++ from.front) from.back
            (subst (FitAfter setup []) (ap (λ es. history ++ es) from.whole ∙ sym (append_assoc history from.front from.back)) fit);
        in_hour = filter-append (touches hour) history from.front ∙ ap (λ es. of_hour hour history ++ es) from.passed;
      }

  pub go-on : (its : ℕ → List Event) → ((hour : ℕ) → of_hour hour more ≡ its hour) → GoesOnInHours setup history more its
  go-on its own = record {
    own = own;
    hours = λ hour. record {
      is_setup = is_setup;
      fit = fit;
      in_hour = filter-append (touches hour) history more ∙ ap (λ es. of_hour hour history ++ es) (own hour);
    };
    parts = λ hour some rest is. hours-part hour some rest (own hour ∙ is);
  }

pub fitting : FittingEventsGoOnInHours
fitting setup history more is_setup fit = go-on setup history more is_setup fit (hour_events more) (λ hour. refl)

pub replies : RepliesGoOnInHours
replies setup parts history caller given is_setup is_history =
    fitting setup history _ is_setup (reply-history setup is_setup parts history caller is_history given).fit
