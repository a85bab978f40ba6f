-- Moments, and what the events of an hour say of it, after one more event.
use Rattle.std.proofs.Common.{◌≡◌, ◌∙◌, inl, inr, ℕ, ◌+◌, Bool, true, false, cond, List, [], ◌∷◌, ◌++◌, append_assoc, length, refl, sym, ap, subst, if◌then◌else◌}
use Rattle.std.proofs.lemmas.List.{append-nil}
use Rattle.std.proofs.lemmas.List.Elements.{filter-append}
use Rattle.order_kinds.specs.declared.order.OrderName.{OrderName}
use Rattle.zone_graph.proofs.Membership.{IsIn-right, from_filter}
use Rattle.market_model.specs.declared.event.Event.{Event}
use Rattle.market_model.specs.declared.setup.Setup.{Setup}
use Rattle.market_model.specs.History.{and_then, of_hour, touches}
use Rattle.market_model.specs.Orders.{Placed, PlacedBlock, block_moment, enters_block, filled, gives_moment, last_place, last_place_from, moment}
use Rattle.market_model.specs.WellFormed.{FitAfter}
use Rattle.laws_of_market.proofs.NamedByHour.{history-named}
use Rattle.laws_of_market.proofs.Restrict.{filter-filter}
use Rattle.laws_of_market.proofs.LocalStates.{Agree, agree-more, filled-agree}

-- the last place after one more event
place_from-more : (test : List Event → Event → Bool) (before : List Event) (found : ℕ) (xs : List Event) (e : Event)
    → last_place_from test before found (xs ++ e ∷ []) ≡ (if test (before ++ xs) e then length (before ++ xs) + 1 else last_place_from test before found xs)
place_from-more test before found [] e = rw (append-nil before) refl
place_from-more test before found (x ∷ xs) e =
    subst (λ front. last_place_from test (and_then before x) next (xs ++ e ∷ []) ≡ (if test front e then length front + 1 else last_place_from test (and_then before x) next xs))
    (append_assoc before (x ∷ []) xs) (place_from-more test (and_then before x) next xs e)
  where
    next : ℕ
    next = if test before x then length before + 1 else found

place-more : (test : List Event → Event → Bool) (xs : List Event) (e : Event)
    → last_place test (xs ++ e ∷ []) ≡ (if test xs e then length xs + 1 else last_place test xs)
place-more test xs e = place_from-more test [] 0 xs e

-- the events of an hour after one more that touches it, and after one that does not
pub hour-more : (hour : ℕ) (before : List Event) (e : Event) → touches hour e ≡ true → of_hour hour (and_then before e) ≡ of_hour hour before ++ e ∷ []
hour-more hour before e is = filter-append (touches hour) before (e ∷ []) ∙ ap (λ t. of_hour hour before ++ cond t (e ∷ []) []) is

pub hour-same : (hour : ℕ) (before : List Event) (e : Event) → touches hour e ≡ false → of_hour hour (and_then before e) ≡ of_hour hour before
hour-same hour before e is =
    filter-append (touches hour) before (e ∷ []) ∙ ap (λ t. of_hour hour before ++ cond t (e ∷ []) []) is ∙ append-nil (of_hour hour before)

-- moments after one more event of their hour
pub moment-more : (hour : ℕ) (before : List Event) (e : Event) (order : Placed) → touches hour e ≡ true → order.name.hour ≡ hour
    → moment (and_then before e) order ≡ (if gives_moment order (of_hour hour before) e then length (of_hour hour before) + 1 else moment before order)
moment-more hour before e order is same =
    ap (λ h. last_place (gives_moment order) (of_hour h (and_then before e))) same
    ∙ ap (last_place (gives_moment order)) (hour-more hour before e is)
    ∙ place-more (gives_moment order) (of_hour hour before) e
    ∙ ap (λ h. if gives_moment order (of_hour hour before) e then length (of_hour hour before) + 1 else last_place (gives_moment order) (of_hour h before)) (sym same)

pub block_moment-more : (hour : ℕ) (before : List Event) (e : Event) (block : PlacedBlock) → touches hour e ≡ true → block.name.hour ≡ hour
    → block_moment (and_then before e) block ≡ (if enters_block block (of_hour hour before) e then length (of_hour hour before) + 1 else block_moment before block)
block_moment-more hour before e block is same =
    ap (λ h. last_place (enters_block block) (of_hour h (and_then before e))) same
    ∙ ap (last_place (enters_block block)) (hour-more hour before e is)
    ∙ place-more (enters_block block) (of_hour hour before) e
    ∙ ap (λ h. if enters_block block (of_hour hour before) e then length (of_hour hour before) + 1 else last_place (enters_block block) (of_hour h before)) (sym same)

-- the events of an hour agree on it with all events
agree-hour : (setup : Setup) (hour : ℕ) (before : List Event) → FitAfter setup [] before → Agree (hour ∷ []) (of_hour hour before) before
agree-hour setup hour before fit = record {
  named_a = λ e i. history-named setup before fit e (from_filter (touches hour) e before i).0;
  named_b = history-named setup before fit;
  same = λ other i. elim i [
    | inl s ↦ subst (λ h. of_hour h (of_hour hour before) ≡ of_hour h before) (sym s) (filter-filter (touches hour) (touches hour) before (λ e j t. t))
    | inr j ↦ absurd j
  ];
}

-- so does what they fill
pub filled-hour : (setup : Setup) (hour : ℕ) (before : List Event) (e : Event) (name : OrderName) → FitAfter setup [] before
    → FitAfter setup [] (and_then before e) → name.hour ≡ hour → filled (and_then (of_hour hour before) e) name ≡ filled (and_then before e) name
filled-hour setup hour before e name fit fit_more same =
    filled-agree (hour ∷ []) (and_then (of_hour hour before) e) (and_then before e)
    (agree-more (hour ∷ []) (of_hour hour before) before e (agree-hour setup hour before fit)
    (history-named setup (and_then before e) fit_more e (IsIn-right e before (e ∷ []) (inl refl)))) name (inl same)

-- what does not touch an hour leaves it as it was
pub agree-elsewhere : (setup : Setup) (hour : ℕ) (before : List Event) (e : Event) → FitAfter setup [] before → FitAfter setup [] (and_then before e)
    → touches hour e ≡ false → Agree (hour ∷ []) (and_then before e) before
agree-elsewhere setup hour before e fit fit_more is = record {
  named_a = history-named setup (and_then before e) fit_more;
  named_b = history-named setup before fit;
  same = λ other i. elim i [
    | inl s ↦ subst (λ h. of_hour h (and_then before e) ≡ of_hour h before) (sym s) (hour-same hour before e is)
    | inr j ↦ absurd j
  ];
}
