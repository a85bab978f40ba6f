-- A kept hour after one more event, as its fields have it.
use Rattle.std.proofs.Common.{◌≡◌, ◌∙◌, ℕ, ◌+◌, List, [], ◌∷◌, ◌++◌, Option, Some, None, sym, ap, subst}
use Rattle.std.proofs.lemmas.List.{take-append-le}
use Rattle.order_kinds.specs.declared.order.Order.{Order}
use Rattle.zone_graph.specs.Graph.{Graph}
use Rattle.market_model.specs.declared.event.Event.{Event}
use Rattle.market_model.specs.declared.event.Event.TheVariants as event
use Rattle.market_model.specs.History.{and_then}
use Rattle.market_model.specs.Orders.{next_name}
use Rattle.hour_store.specs.Store.{Store}
use Rattle.kept_hour.specs.Kept.{IsKept, hour_of}
use Rattle.kept_hour.specs.Planned.{after_events}
use Rattle.kept_hour.specs.State.{CanBeNext, HourState, entry_of, withdrawal_of}
use Rattle.kept_hour.proofs.Entering.{entered-next, number-is}
use Rattle.kept_hour.proofs.Hands.{withdrawn-next}
use Rattle.kept_hour.proofs.Keeping.{KeepsNext, kept-next, own}

module _ (grid : Graph) (number : ℕ) (events : List Event) (settled : ℕ) (hand : Option ℕ) (numbers settled_numbers : ℕ) (store : Store)
    (kept : IsKept (own grid number events settled hand) settled numbers settled_numbers store)
    (seen : HourState) (view_is : own grid number events settled hand ≡ seen) where
  -- what holds of the hour that a caller sees holds of the hour as its fields have it
  pub to-own : (P : HourState → Type 0) → P seen → P (own grid number events settled hand)
  to-own P holds = subst P (sym view_is) holds

  pub kept-by : (event : Event) (later : Option ℕ) (more : ℕ) (new : Store) (after : List Event) → after ≡ events ++ event ∷ []
      → KeepsNext (own grid number events settled hand) event later more store new
      → IsKept (hour_of grid number after settled later) settled more settled_numbers new
  kept-by event later more new after is next =
      subst (λ es. IsKept (hour_of grid number es settled later) settled more settled_numbers new) (sym is)
      (kept-next grid number events settled hand numbers settled_numbers store kept event later more new next)

  -- some events more, and no order in hand
  pub after-many : hand ≡ None → (more : List Event) → hour_of grid number (events ++ more) settled hand ≡ after_events (own grid number events settled hand) more
  after-many free_own more =
      ap (hour_of grid number (events ++ more) settled) free_own
      ∙ ap (λ es. record (hour_of grid number (events ++ more) settled None) { settled = es }) (take-append-le settled events more kept.first_part)

  -- an order enters
  pub entered-kept : (caller : ℕ) (order : Order) → seen.board.hand ≡ None → CanBeNext seen (entry_of seen caller order) → (after : List Event)
      → after ≡ events ++ event.Entered (record { hour = number; number = numbers + 1 }) caller order ∷ []
      → IsKept (hour_of grid number after settled (Some (numbers + 1))) settled (numbers + 1) settled_numbers store
  entered-kept caller order free next after is =
      let mine : HourState = own grid number events settled hand in
      let free_own : hand ≡ None = to-own (λ h. h.board.hand ≡ None) free in
      let next_own : CanBeNext mine (entry_of mine caller order) = to-own (λ h. CanBeNext h (entry_of h caller order)) next in
      let same : numbers + 1 ≡ (next_name events number).number = number-is mine numbers settled_numbers store kept.keeps free_own caller order next_own in
      subst (λ es. IsKept (hour_of grid number es settled (Some (numbers + 1))) settled (numbers + 1) settled_numbers store) (sym is)
      (subst (λ n. IsKept (hour_of grid number (and_then events (event.Entered (record { hour = number; number = n }) caller order)) settled (Some n)) settled (numbers + 1) settled_numbers store)
      (sym same)
      (kept-next grid number events settled hand numbers settled_numbers store kept (entry_of mine caller order) (Some (next_name events number).number) (numbers + 1) store
      (entered-next mine numbers settled_numbers store kept.keeps free_own caller order next_own)))

  -- the order in hand is withdrawn
  pub hand-withdrawn : (held lots : ℕ) → hand ≡ Some held
      → ((n : ℕ) → seen.board.hand ≡ Some n → CanBeNext seen (withdrawal_of seen n lots)) → (after : List Event)
      → after ≡ events ++ event.Withdrawn (record { hour = number; number = held }) lots ∷ []
      → IsKept (hour_of grid number after settled None) settled numbers settled_numbers store
  hand-withdrawn held lots is_held next after is =
      let mine : HourState = own grid number events settled hand in
      let next_own : CanBeNext mine (withdrawal_of mine held lots) =
      to-own (λ h. (n : ℕ) → h.board.hand ≡ Some n → CanBeNext h (withdrawal_of h n lots)) next held is_held in
      kept-by (withdrawal_of mine held lots) None numbers store after is
      (withdrawn-next mine numbers settled_numbers store kept.keeps held lots is_held next_own)
