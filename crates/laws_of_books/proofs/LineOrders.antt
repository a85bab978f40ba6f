-- The orders of a line, and that they stand strictly in priority.
use Rattle.std.proofs.Common.{◌≡◌, ◌≢◌, ◌∙◌, inl, inr, ℕ, ◌&&◌, Bool, cond, true, false, List, [], ◌∷◌, ◌++◌, filter, fold, map, None, refl, sym, ap, subst, arith}
use Rattle.std.proofs.lemmas.Bool.{and_parts}
use Rattle.std.proofs.lemmas.List.Elements.{filter_map-append}
use Rattle.std.proofs.lemmas.List.Sorted.{ranks_by}
use Rattle.std.specs.Cmp.{IsStrictWeakOrder}
use Rattle.std.specs.List.{cons_option}
use Rattle.std.specs.Ordering.{is_lt}
use Rattle.order_kinds.specs.declared.contract.Contract.{Contract}
use Rattle.order_kinds.specs.declared.order.OrderName.{OrderName}
use Rattle.order_kinds.specs.declared.side.Side.{Side}
use Rattle.order_kinds.specs.Same.{same_contract, same_side}
use Rattle.zone_graph.specs.InOrder.{IsStrictlyInOrder, put_in_order}
use Rattle.zone_graph.specs.Route.{IsIn}
use Rattle.zone_graph.proofs.InOrder.{from_put_in_order, in_order-map, in_order-put}
use Rattle.zone_graph.proofs.Membership.{IsIn-append, IsIn-map, from_filter, from_map}
use Rattle.contract_book.specs.declared.held.Held.{Held}
use Rattle.contract_book.specs.declared.resting.Resting.{Resting}
use Rattle.contract_book.specs.Priority.{resting_total}
use Rattle.contract_book.specs.Resting.{resting_cmp}
use Rattle.contract_book.proofs.BookCalls.{apart_by_number}
use Rattle.market_model.specs.declared.event.Event.{Event}
use Rattle.market_model.specs.declared.event.Event.TheVariants as event
use Rattle.market_model.specs.declared.setup.Setup.{Setup}
use Rattle.market_model.specs.History.{and_then}
use Rattle.market_model.specs.Lines.{line, priority_cmp, stands_in}
use Rattle.market_model.specs.Orders.{Placed, Standing, is_open, placed, placed_by, standing}
use Rattle.market_model.specs.WellFormed.{FitAfter, Fits}
use Rattle.laws_of_market.proofs.Growing.{grows}
use Rattle.laws_of_market.proofs.Lines.{IsIn-line, priority_weak}
use Rattle.laws_of_market.proofs.Names.{names-once, order_name-new, times_entered}
use Rattle.laws_of_market.proofs.Placed.{all_are_sound, picked-same}
use Rattle.laws_of_market.proofs.Repeats.{fit-more}
use Rattle.laws_of_market.proofs.Tests.{same_contract-eq}
use Rattle.laws_of_market.proofs.Trades.{IsOpen, from_line}
use Rattle.laws_of_market.proofs.MomentsKept.{given_order}
use Rattle.laws_of_books.specs.BookOf.{resting_line, resting_of}

-- what stands in a line is the record of an open order of its contract and side
pub record StandsIn (events : List Event) (contract : Contract) (side : Side) (found : Resting) : Type 0 where
  pub order : Placed
  pub is_placed : IsIn order (placed events)
  pub is_left : is_open events order.name ≡ true
  pub of_contract : order.order.contract ≡ contract
  pub on_side : order.order.side ≡ side
  pub is : found ≡ resting_of (standing events order)

pub from_resting : (events : List Event) (contract : Contract) (side : Side) (found : Resting) → IsIn found (resting_line events contract side)
    → StandsIn events contract side found
from_resting events contract side found i =
    let made = from_map resting_of found (line events contract side) i in
    let there = from_line events contract side made.0 made.1 in
    record {
      order = there.order;
      is_placed = there.is_open.is_placed;
      is_left = there.is_open.is_left;
      of_contract = there.of_contract;
      on_side = there.on_side;
      is = made.2 ∙ ap resting_of there.is;
    }

pub in_resting : (events : List Event) (contract : Contract) (side : Side) (found : Resting) → StandsIn events contract side found
    → IsIn found (resting_line events contract side)
in_resting events contract side found there =
    let own : Standing = standing events there.order in
    let opened : IsOpen events there.order = record { is_placed = there.is_placed; is_left = there.is_left } in
    subst (λ r. IsIn r (resting_line events contract side)) (sym there.is)
    (subst (λ s. IsIn (resting_of own) (resting_line events contract s)) there.on_side
    (subst (λ c. IsIn (resting_of own) (resting_line events c there.order.order.side)) there.of_contract
    (IsIn-map resting_of own (line events there.order.order.contract there.order.order.side) (IsIn-line events there.order opened))))

-- names of one hour that have one number are one
pub same_names : (a b : OrderName) → a.hour ≡ b.hour → a.number ≡ b.number → a ≡ b
same_names a b hours numbers = λ i. record { hour = hours i; number = numbers i }

-- the name that an order gets is no other's
pub entered-other : (setup : Setup) (events : List Event) → FitAfter setup [] events → (name : OrderName) → times_entered events name ≡ 0
    → (order : Placed) → IsIn order (placed events) → name ≢ order.name
entered-other setup events fit name new order there same =
    let some = given_order events order there in
    let none : times_entered events order.name ≡ 0 = subst (λ n. times_entered events n ≡ 0) same new in
    absurd (omega (arith, some, none))

-- no two of some orders have one name
abbrev NamesDiffer : List Placed → Type 0
NamesDiffer [] = Unit {0}
NamesDiffer (order ∷ orders) = ((other : Placed) → IsIn other orders → order.name ≢ other.name) × NamesDiffer orders

differ-more : (orders : List Placed) (new : Placed) → NamesDiffer orders → ((order : Placed) → IsIn order orders → order.name ≢ new.name)
    → NamesDiffer (orders ++ new ∷ [])
differ-more [] new differ apart = (λ other i. absurd i, tt)
differ-more (order ∷ orders) new differ apart = (
  λ other i. elim (IsIn-append other orders (new ∷ []) i) [
    | inl old ↦ differ.0 other old
    | inr last ↦ elim last [ inl same ↦ λ e. apart order (inl refl) (e ∙ ap (λ (p : Placed). p.name) same) | inr none ↦ absurd none ]
  ],
  differ-more orders new differ.1 (λ p i. apart p (inr i)),
)

differ-filter : (p : Placed → Bool) (orders : List Placed) → NamesDiffer orders → NamesDiffer (filter p orders)
differ-filter p [] differ = tt
differ-filter p (order ∷ orders) differ = go (p order) (differ-filter p orders differ.1)
  where
    go : (b : Bool) → NamesDiffer (filter p orders) → NamesDiffer (cond b (order ∷ filter p orders) (filter p orders))
    go true rest = (λ other i. differ.0 other (from_filter p other orders i).0, rest)
    go false rest = rest

-- no two of the orders that entered have one name
record AreNamedOnce (setup : Setup) (events : List Event) : Type 0 where
  fit : FitAfter setup [] events
  differ : NamesDiffer (placed events)

placed-more : (events : List Event) (e : Event) → placed (and_then events e) ≡ placed events ++ cons_option (placed_by e) []
placed-more events e = filter_map-append placed_by events (e ∷ [])

differ-same : (events : List Event) (e : Event) → placed_by e ≡ None → NamesDiffer (placed events) → NamesDiffer (placed (and_then events e))
differ-same events e none differ = subst NamesDiffer (sym (picked-same placed_by events e none)) differ

differ-fit : (setup : Setup) (events : List Event) (e : Event) → AreNamedOnce setup events → Fits setup events e → NamesDiffer (placed (and_then events e))
differ-fit setup events (event.Entered name caller order) are fits =
    let new = order_name-new setup events name caller order (names-once setup events are.fit) fits in
    subst NamesDiffer (sym (placed-more events (event.Entered name caller order)))
    (differ-more (placed events) (record { name = name; caller = caller; order = order }) are.differ (λ p i e. entered-other setup events are.fit name new p i (sym e)))
differ-fit setup events e are fits = differ-same events e refl are.differ

placed-differ : (setup : Setup) (events : List Event) → FitAfter setup [] events → NamesDiffer (placed events)
placed-differ setup events fit =
    (grows setup (AreNamedOnce setup) (λ before e are fits. record { fit = fit-more setup before e are.fit fits; differ = differ-fit setup before e are fits }) [] events fit
    (record { fit = tt; differ = tt })).differ

-- two orders of an hour: one comes before the other
held_of : Resting → Held
held_of order = record { line = 0; order = order }

pub resting-apart : (side : Side) (one other : Resting) → one.number ≢ other.number → is_lt (resting_cmp side one other) ≡ false
    → is_lt (resting_cmp side other one) ≡ true
unfolding held_of
resting-apart side one other differs not_before = apart_by_number side (held_of one) (held_of other) differs not_before

pub resting_weak : (side : Side) → IsStrictWeakOrder (λ (a b : Resting). is_lt (resting_cmp side a b))
resting_weak side = ranks_by (resting_total side) (λ (order : Resting). order)

module _ (events : List Event) (hour : ℕ) (side : Side) where
  -- orders of an hour that are put in priority one by one, each under a name of its own
  strict-fold : (before : List Standing) (orders : List Placed) → IsStrictlyInOrder (priority_cmp side) before
      → ((order : Placed) → IsIn order orders → order.name.hour ≡ hour) → NamesDiffer orders
      → ((own : Standing) (order : Placed) → IsIn own before → IsIn order orders → own.name.number ≢ order.name.number)
      → IsStrictlyInOrder (priority_cmp side) (fold (put_in_order (priority_cmp side)) before (map (standing events) orders))
  strict-fold before [] strict named differ apart = strict
  strict-fold before (order ∷ orders) strict named differ apart =
      let own : Standing = standing events order in
      strict-fold (put_in_order (priority_cmp side) before own) orders
      (in_order-put (priority_cmp side) (priority_weak side) before own strict
      (λ other i not_before. resting-apart side (resting_of own) (resting_of other) (λ same. apart other order i (inl refl) (sym same)) not_before))
      (λ p i. named p (inr i)) differ.1
      (λ other p i j. elim (from_put_in_order (priority_cmp side) other before own i) [
        | inl is ↦ λ same. differ.0 p j (same_names order.name p.name (named order (inl refl) ∙ sym (named p (inr j))) (sym (ap (λ (s : Standing). s.name.number) is) ∙ same))
        | inr old ↦ apart other p old (inr j)
      ])

-- the orders of a line stand strictly in priority
pub line-strict : (setup : Setup) (events : List Event) → FitAfter setup [] events → (contract : Contract) (side : Side)
    → IsStrictlyInOrder (priority_cmp side) (line events contract side)
unfolding line
line-strict setup events fit contract side =
    strict-fold events contract.hour side [] (filter (stands_in events contract side) (placed events)) tt named
    (differ-filter (stands_in events contract side) (placed events) (placed-differ setup events fit)) (λ own order i j. absurd i)
  where
    named : (order : Placed) → IsIn order (filter (stands_in events contract side) (placed events)) → order.name.hour ≡ contract.hour
    named order i =
        let there = from_filter (stands_in events contract side) order (placed events) i in
        let both = and_parts (is_open events order.name && same_contract order.order.contract contract) (same_side order.order.side side) there.1 in
        let first = and_parts (is_open events order.name) (same_contract order.order.contract contract) both.0 in
        ((all_are_sound setup events fit).orders order there.0).named ∙ ap (λ (c : Contract). c.hour) (same_contract-eq order.order.contract contract first.1)

-- and so do their records
pub resting-strict : (setup : Setup) (events : List Event) → FitAfter setup [] events → (contract : Contract) (side : Side)
    → IsStrictlyInOrder (resting_cmp side) (resting_line events contract side)
resting-strict setup events fit contract side =
    in_order-map resting_of (priority_cmp side) (resting_cmp side) (λ a b. refl) (line events contract side) (line-strict setup events fit contract side)
