-- The line of a history of a taker: what is left of the line, in the same order.
use Rattle.std.proofs.Common.{◌≡◌, ◌∙◌, ◌<◌, Bool, true, false, ◌&&◌, cond, List, [], ◌∷◌, ◌++◌, filter, map, refl, sym, ap, arith}
use Rattle.std.proofs.lemmas.Bool.{lt-ltb, ltb-true, and_parts, and_from}
use Rattle.std.proofs.lemmas.List.{append-nil}
use Rattle.std.proofs.lemmas.List.Elements.{filter-append}
use Rattle.std.specs.Ordering.{nat_cmp, ordering_then}
use Rattle.order_kinds.specs.declared.contract.Contract.{Contract}
use Rattle.order_kinds.specs.declared.side.Side.{Side}
use Rattle.order_kinds.specs.declared.side.Side.TheVariants.{Buy, Sell}
use Rattle.order_kinds.specs.Same.{same_contract, same_side}
use Rattle.order_kinds.specs.Side.{opposite, price_cmp}
use Rattle.zone_graph.specs.Route.{IsIn}
use Rattle.zone_graph.proofs.Membership.{from_filter}
use Rattle.market_model.specs.declared.event.Event.{Event}
use Rattle.market_model.specs.Lines.{line, priority_cmp, stands_in, time_cmp}
use Rattle.market_model.specs.Orders.{Placed, Standing, is_open, left, placed, standing}
use Rattle.laws_of_market.proofs.Lines.{priority_weak}
use Rattle.laws_of_market.proofs.Members.{IsIn-in_order}
use Rattle.laws_of_market.proofs.Restrict.{filter-filter, filter-same, filter-map}
use Rattle.laws_of_rows.proofs.Kept.{IsAfter, line-of_kind, now, now-price}
use Rattle.laws_of_rows.proofs.Ordered.{filter-in_order, map-in_order}
use Rattle.zone_graph.specs.InOrder.{in_order}

opposed : (side : Side) → same_side (opposite side) side ≡ false
opposed Buy = refl
opposed Sell = refl

and-false : (b : Bool) → (b && false) ≡ false
and-false true = refl
and-false false = refl

module _ (events : List Event) (contract : Contract) (side : Side) (taker : Placed) (across : taker.order.side ≡ opposite side)
    (V : List Event) (after : IsAfter events contract side taker V) where
  -- something is left of an order
  abbrev open_now : Standing → Bool
  open_now s = is_open V s.name

  -- the orders of the line before they are in order
  abbrev standers : List Placed
  standers = filter (stands_in events contract side) (placed events)

  no_taker : filter (stands_in V contract side) (taker ∷ []) ≡ []
  no_taker =
      let none : stands_in V contract side taker ≡ false =
      ap (λ s. is_open V taker.name && same_contract taker.order.contract contract && same_side s side) across
      ∙ ap (λ b. is_open V taker.name && same_contract taker.order.contract contract && b) (opposed side)
      ∙ and-false (is_open V taker.name && same_contract taker.order.contract contract) in
      ap (λ b. cond b (taker ∷ []) []) none

  stays_open : (p : Placed) → IsIn p (placed events) → stands_in V contract side p ≡ true → stands_in events contract side p ≡ true
  stays_open p i stands =
      let both = and_parts (is_open V p.name && same_contract p.order.contract contract) (same_side p.order.side side) stands in
      let front = and_parts (is_open V p.name) (same_contract p.order.contract contract) both.0 in
      let some : 0 < left V p.name = ltb-true 0 (left V p.name) front.0 in
      let most = after.closed p i in
      and_from (is_open events p.name && same_contract p.order.contract contract) (same_side p.order.side side)
      (and_from (is_open events p.name) (same_contract p.order.contract contract) (lt-ltb 0 (left events p.name) (omega (arith, some, most))) front.1) both.1

  only_open : (p : Placed) → IsIn p standers → stands_in V contract side p ≡ is_open V p.name
  only_open p i =
      let stands = (from_filter (stands_in events contract side) p (placed events) i).1 in
      let both = and_parts (is_open events p.name && same_contract p.order.contract contract) (same_side p.order.side side) stands in
      let front = and_parts (is_open events p.name) (same_contract p.order.contract contract) both.0 in
      ap (λ b. is_open V p.name && same_contract p.order.contract contract && b) both.1
      ∙ ap (λ b. is_open V p.name && b && true) front.1
      ∙ and-true-true (is_open V p.name)
    where
      and-true-true : (b : Bool) → (b && true && true) ≡ b
      and-true-true true = refl
      and-true-true false = refl

  standers-now : filter (stands_in V contract side) (placed V) ≡ filter (λ (p : Placed). is_open V p.name) standers
  standers-now =
      ap (filter (stands_in V contract side)) after.placed_are
      ∙ filter-append (stands_in V contract side) (placed events) (taker ∷ [])
      ∙ ap (λ ps. filter (stands_in V contract side) (placed events) ++ ps) no_taker
      ∙ append-nil (filter (stands_in V contract side) (placed events))
      ∙ sym (filter-filter (stands_in V contract side) (stands_in events contract side) (placed events) stays_open)
      ∙ filter-same (stands_in V contract side) (λ (p : Placed). is_open V p.name) standers only_open

  now-standing : (ps : List Placed) → map (standing V) ps ≡ map (now V) (map (standing events) ps)
  now-standing [] = refl
  now-standing (p ∷ ps) = ap (λ ss. standing V p ∷ ss) (now-standing ps)

  standings-now : map (standing V) (filter (stands_in V contract side) (placed V)) ≡ map (now V) (filter open_now (map (standing events) standers))
  standings-now =
      ap (map (standing V)) standers-now
      ∙ now-standing (filter (λ (p : Placed). is_open V p.name) standers)
      ∙ ap (map (now V)) (sym (filter-map open_now (standing events) standers))

  -- what keeps its place in the line
  record KeepsPlace (s : Standing) : Type 0 where
    price : (now V s).price ≡ s.price
    moment_is : (now V s).moment ≡ s.moment

  same-priority : (a b : Standing) → KeepsPlace a → KeepsPlace b → priority_cmp side (now V a) (now V b) ≡ priority_cmp side a b
  same-priority a b of_a of_b =
      ap (λ p. ordering_then (price_cmp side p (now V b).price) (time_cmp (now V a) (now V b))) of_a.price
      ∙ ap (λ p. ordering_then (price_cmp side a.price p) (time_cmp (now V a) (now V b))) of_b.price
      ∙ ap (λ m. ordering_then (price_cmp side a.price b.price) (ordering_then (nat_cmp m (now V b).moment) (nat_cmp a.name.number b.name.number))) of_a.moment_is
      ∙ ap (λ m. ordering_then (price_cmp side a.price b.price) (ordering_then (nat_cmp a.moment m) (nat_cmp a.name.number b.name.number))) of_b.moment_is

  in_line : (s : Standing) → IsIn s (map (standing events) standers) → IsIn s (line events contract side)
  unfolding line
  in_line s i = IsIn-in_order (priority_cmp side) s (map (standing events) standers) i

  keeps-place : (s : Standing) → IsIn s (filter open_now (map (standing events) standers)) → KeepsPlace s
  keeps-place s i =
      let there = from_filter open_now s (map (standing events) standers) i in
      let member = in_line s there.0 in
      let kept = after.orders s member in
      let some : 0 < left V s.name = ltb-true 0 (left V s.name) there.1 in
      record { price = now-price V s kept (line-of_kind events contract side s member) some; moment_is = kept.moment_is some }

  pub line-after : line V contract side ≡ map (now V) (filter open_now (line events contract side))
  unfolding line
  line-after =
      ap (in_order (priority_cmp side)) standings-now
      ∙ sym (map-in_order (priority_cmp side) (now V) KeepsPlace same-priority (filter open_now (map (standing events) standers)) keeps-place)
      ∙ ap (map (now V)) (sym (filter-in_order (priority_cmp side) (priority_weak side) open_now (map (standing events) standers)))
