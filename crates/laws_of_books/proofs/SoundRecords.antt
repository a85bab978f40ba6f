-- The record of an open order agrees with itself.
use Rattle.std.proofs.Common.{◌≡◌, ◌∙◌, inl, inr, ℕ, ◌-◌, ◌*◌, ◌/◌, ◌<◌, ◌≤◌, Bool, true, false, List, [], Some, refl, sym, ap, subst, arith}
use Rattle.std.proofs.Math.Nat.{div-mul-le_self, mul-div_cancel, mul-le-mul_right}
use Rattle.std.proofs.lemmas.Bool.{lt-ltb, ltb-true}
use Rattle.order_kinds.specs.declared.order.Kind.{Kind}
use Rattle.order_kinds.specs.declared.order.Kind.TheVariants as kind
use Rattle.order_kinds.specs.declared.price.Lots.{Lots}
use Rattle.order_kinds.specs.Order.{last_peak, peak_price}
use Rattle.order_kinds.specs.Price.{price_in_range}
use Rattle.order_kinds.specs.Same.{same_name}
use Rattle.zone_graph.specs.Pour.{lots_if}
use Rattle.zone_graph.specs.Route.{IsIn}
use Rattle.contract_book.specs.Resting.{AgreesWith, IsIceberg, IsSound}
use Rattle.market_model.specs.declared.event.Event.{Event}
use Rattle.market_model.specs.declared.event.Event.TheVariants as event
use Rattle.market_model.specs.declared.setup.Setup.{Setup}
use Rattle.market_model.specs.History.{and_then}
use Rattle.market_model.specs.Orders.{Placed, entered_by, filled, is_open, left, placed, placed_by, standing, taken_off, taken_off_by}
use Rattle.market_model.specs.WellFormed.{FitAfter, Fits}
use Rattle.laws_of_market.proofs.Balances.{left-filled-taken_off}
use Rattle.laws_of_market.proofs.Growing.{grows}
use Rattle.laws_of_market.proofs.Names.{block_name-new, names-once, order_name-new}
use Rattle.laws_of_market.proofs.Placed.{all_are_sound, from_picked-more}
use Rattle.laws_of_market.proofs.Repeats.{fit-more}
use Rattle.laws_of_market.proofs.Soundness.{order_fault-none, peak-some}
use Rattle.laws_of_market.proofs.States.{left-more, taken_off-more}
use Rattle.laws_of_market.proofs.Tests.{same_name-eq}
use Rattle.laws_of_market.proofs.Unique.{entered-order, one_order}
use Rattle.laws_of_market.proofs.Wholes.{new-untouched, other_name}
use Rattle.laws_of_market.proofs.Prices.{prices-in-range}
use Rattle.laws_of_books.specs.BookOf.{ice_of, resting_of}
use Rattle.laws_of_books.proofs.LineOrders.{entered-other}

-- nothing was taken off an open iceberg: it is withdrawn whole, and never reduced
abbrev IsUnreduced : List Event → Placed → Type 0
IsUnreduced events order = (peak : Lots) (delta : ℕ) → order.order.kind ≡ kind.Iceberg peak delta → is_open events order.name ≡ true → taken_off events order.name ≡ 0

record AreUnreduced (setup : Setup) (events : List Event) : Type 0 where
  fit : FitAfter setup [] events
  each : (order : Placed) → IsIn order (placed events) → IsUnreduced events order

module _ (setup : Setup) (events : List Event) (are : AreUnreduced setup events) (e : Event) (fits : Fits setup events e) where
  -- an event that enters nothing of an order and takes nothing off it
  stays-unreduced : (order : Placed) → IsIn order (placed events) → entered_by order.name e ≡ 0 → taken_off_by order.name e ≡ 0
      → IsUnreduced (and_then events e) order
  stays-unreduced order there none_in none_off peak delta is opened =
      let less = left-more events e order.name none_in in
      let some = ltb-true 0 (left (and_then events e) order.name) opened in
      let was : is_open events order.name ≡ true = lt-ltb 0 (left events order.name) (omega (arith, less, some)) in
      let before = are.each order there peak delta is was in
      let more = taken_off-more events e order.name in
      omega (arith, before, more, none_off)

unreduced-old : (setup : Setup) (events : List Event) → AreUnreduced setup events → (e : Event) → Fits setup events e → (order : Placed)
    → IsIn order (placed events)
    → IsUnreduced (and_then events e) order
unreduced-old setup events are (event.Entered name caller entering) fits order there =
    let new =
    entered-other setup events are.fit name (order_name-new setup events name caller entering (names-once setup events are.fit) fits) order there in
    stays-unreduced setup events are (event.Entered name caller entering) fits order there (ap (λ b. lots_if b entering.quantity.0) (other_name name order.name new)) refl
unreduced-old setup events are (event.EnteredBlock name caller entering) fits order there =
    let new =
    entered-other setup events are.fit name (block_name-new setup events name caller entering (names-once setup events are.fit) fits) order there in
    stays-unreduced setup events are (event.EnteredBlock name caller entering) fits order there (ap (λ b. lots_if b entering.quantity.0) (other_name name order.name new)) refl
unreduced-old setup events are (event.Withdrawn name lots) fits order there = go (same_name name order.name) refl
  where
    go : (b : Bool) → same_name name order.name ≡ b → IsUnreduced (and_then events (event.Withdrawn name lots)) order
    go false e = stays-unreduced setup events are (event.Withdrawn name lots) fits order there refl (ap (λ b. lots_if b lots) e)
    go true e = λ peak delta is opened.
        let all : lots ≡ left events order.name = subst (λ n. lots ≡ left events n) (same_name-eq name order.name e) fits.all_left in
        let own : taken_off_by order.name (event.Withdrawn name lots) ≡ lots = ap (λ b. lots_if b lots) e in
        let less = left-more events (event.Withdrawn name lots) order.name refl in
        let some = ltb-true 0 (left (and_then events (event.Withdrawn name lots)) order.name) opened in
        absurd (omega (arith, all, own, less, some))
unreduced-old setup events are (event.Reduced name by) fits order there = go (same_name name order.name) refl
  where
    go : (b : Bool) → same_name name order.name ≡ b → IsUnreduced (and_then events (event.Reduced name by)) order
    go false e = stays-unreduced setup events are (event.Reduced name by) fits order there refl (ap (λ b. lots_if b by) e)
    go true e = λ peak delta is opened.
        let same : fits.order ≡ order =
        one_order events (names-once setup events are.fit) fits.order order fits.order_open.is_placed there (fits.order_open.is_named ∙ same_name-eq name order.name e) in
        let limit : kind.Limit ≡ kind.Iceberg peak delta = sym fits.is_limit ∙ ap (λ (p : Placed). p.order.kind) same ∙ is in
        absurd (cc)
unreduced-old setup events are e fits order there =
    stays-unreduced setup events are e fits order there refl refl

unreduced-new : (setup : Setup) (events : List Event) → FitAfter setup [] events → (e : Event) → Fits setup events e → (order : Placed)
    → placed_by e ≡ Some order
    → taken_off (and_then events e) order.name ≡ 0
unreduced-new setup events fit (event.Entered name caller entering) fits order is =
    let none = new-untouched setup events fit name (order_name-new setup events name caller entering (names-once setup events fit) fits) in
    let more = taken_off-more events (event.Entered name caller entering) name in
    let same : record { name = name; caller = caller; order = entering } ≡ order = cc in
    subst (λ (p : Placed). taken_off (and_then events (event.Entered name caller entering)) p.name ≡ 0) same (omega (arith, none.1, more))
unreduced-new setup events fit _ fits order is = absurd (cc)

unreduced : (setup : Setup) (events : List Event) → FitAfter setup [] events → AreUnreduced setup events
unreduced setup events fit =
    grows setup (AreUnreduced setup) (λ before e are fits. record {
      fit = fit-more setup before e are.fit fits;
      each = λ order there. elim (from_picked-more placed_by order before e there) [
        | inl old ↦ unreduced-old setup before are e fits order old
        | inr is ↦ λ peak delta iceberg opened. unreduced-new setup before are.fit e fits order is
      ];
    }) [] events fit (record { fit = tt; each = λ order i. absurd i })

module _ (setup : Setup) (events : List Event) (fit : FitAfter setup [] events) (order : Placed) (there : IsIn order (placed events))
    (opened : is_open events order.name ≡ true) where
  some_left : 0 < left events order.name
  some_left = ltb-true 0 (left events order.name) opened

  -- the record of an iceberg
  iceberg-sound : (peak : Lots) (delta : ℕ) → order.order.kind ≡ kind.Iceberg peak delta
      → let own = record order { order = record order.order { kind = kind.Iceberg peak delta } } in
      IsIceberg (resting_of (standing events own))
      (record { price = order.order.price; total = order.order.quantity.0; peak = peak.0; delta = delta; filled = filled events order.name })
  iceberg-sound peak delta is = record {
    some = some;
    left_is =
        let parts = left-filled-taken_off setup events fit order.name in
        let whole = entered-order events order (names-once setup events fit) there in
        let none = (unreduced setup events fit).each order there peak delta is opened in
        omega (arith, parts, whole, none);
    shown_is = refl;
    price_is = refl;
    allowed = λ number low high.
        let total : ℕ = order.order.quantity.0 in
        let most : number * peak.0 ≤ last_peak total peak.0 * peak.0 = mul-le-mul_right peak.0 high in
        let within = div-mul-le_self (total - 1) peak.0 in
        let parts = left-filled-taken_off setup events fit order.name in
        let whole = entered-order events order (names-once setup events fit) there in
        let left_some = some_left in
        let less : number * peak.0 < total = omega (arith, most, within, parts, whole, left_some) in
        let allowed = prices-in-range setup events fit order there (number * peak.0) less in
        let shows : price_in_range (peak_price order.order.side order.order.price delta (number * peak.0 / peak.0)) ≡ true = rw is at allowed in
        ap (λ n. price_in_range (peak_price order.order.side order.order.price delta n)) (sym (mul-div_cancel number some)) ∙ shows;
  }
    where
      some : 1 ≤ peak.0
      some = peak-some order.order peak delta is (order_fault-none order.order ((all_are_sound setup events fit).orders order there).sound).peaks

  agrees : (given : Kind) → order.order.kind ≡ given
      → let own = record order { order = record order.order { kind = given } } in
      AgreesWith (resting_of (standing events own)) (ice_of own.order (filled events order.name))
  agrees kind.Limit is = refl
  agrees kind.Ioc is = refl
  agrees kind.Fok is = refl
  agrees (kind.Iceberg peak delta) is = iceberg-sound peak delta is

  pub record-sound : IsSound (resting_of (standing events order))
  record-sound = (some_left, agrees order.order.kind refl)
