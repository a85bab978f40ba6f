-- What an event leaves of the orders that stand elsewhere than in its zones.
use Rattle.std.proofs.Common.{◌≡◌, ◌∙◌, ◌&&◌, inl, inr, ℕ, Bool, true, false, not, List, [], ◌∷◌, ◌++◌, filter, map, nat_lt, Some, refl, sym, ap, subst}
use Rattle.std.proofs.lemmas.Bool.{and_parts, true≢false}
use Rattle.std.proofs.lemmas.List.{append-nil}
use Rattle.std.proofs.lemmas.List.Elements.{filter-append, filter_map-append}
use Rattle.std.proofs.Math.Seq.{append_snoc}
use Rattle.std.specs.List.{filter_map}
use Rattle.order_kinds.specs.declared.contract.Contract.{Contract}
use Rattle.order_kinds.specs.declared.side.Side.{Side}
use Rattle.order_kinds.specs.Same.{same_contract, same_side}
use Rattle.zone_graph.specs.InOrder.{in_order}
use Rattle.zone_graph.specs.Route.{IsIn, has}
use Rattle.zone_graph.proofs.Membership.{IsIn-filter, IsIn-left, IsIn-map, IsIn-right, from_filter, has-IsIn}
use Rattle.market_model.specs.declared.event.Event.{Event}
use Rattle.market_model.specs.declared.event.Event.TheVariants as event
use Rattle.market_model.specs.declared.setup.Setup.{Setup}
use Rattle.market_model.specs.History.{and_then}
use Rattle.market_model.specs.Lines.{line, priority_cmp, stands_in}
use Rattle.market_model.specs.Orders.{Placed, is_open, placed, placed_by, standing}
use Rattle.market_model.specs.WellFormed.{FitAfter}
use Rattle.laws_of_market.proofs.Lines.{priority_weak}
use Rattle.laws_of_market.proofs.Members.{from_filter_map}
use Rattle.laws_of_market.proofs.Placed.{picked-stays}
use Rattle.laws_of_market.proofs.Unique.{enters-placed}
use Rattle.laws_of_market.proofs.Restrict.{map-same, filter-map}
use Rattle.laws_of_rows.specs.Depth.{maker_of}
use Rattle.laws_of_views.specs.Nearby.{is_elsewhere, seen_elsewhere}
use Rattle.laws_of_books.proofs.Untouched.{concerns, left-kept, standing-kept}
use Rattle.laws_of_views.specs.Changes.{AreAmong, is_named, order_zones, zones_of_events}
use Rattle.laws_of_views.proofs.Filtered.{filter-in_order, filters-none, filters-same}
use Rattle.laws_of_views.proofs.NamedElsewhere.{AreIn, concerned-named, placed-in}

-- an order is of a contract and side
abbrev pub is_of : Contract → Side → Placed → Bool
is_of contract side order = same_contract order.order.contract contract && same_side order.order.side side

-- tests joined to the right and to the left
and-joined : (a b c : Bool) → ((a && b) && c) ≡ (a && (b && c))
and-joined true b c = refl
and-joined false b c = refl

and-right : (a b c : Bool) → (c ≡ true → a ≡ b) → (a && c) ≡ (b && c)
and-right a b true same = ap (λ x. x && true) (same refl)
and-right a b false same = none a ∙ sym (none b)
  where
    none : (x : Bool) → (x && false) ≡ false
    none true = refl
    none false = refl

-- an order that an event brings is one that it concerns
brought-concerned : (order : Placed) (e : Event) → IsIn order (filter_map placed_by (e ∷ [])) → concerns order.name e ≡ true
brought-concerned order e new =
    let from = from_filter_map placed_by order (e ∷ []) new in
    elim from.1 [
      | inl same ↦ by_event e (ap placed_by (sym same) ∙ from.2)
      | inr never ↦ absurd never
    ]
  where
    by_event : (f : Event) → placed_by f ≡ Some order → concerns order.name f ≡ true
    by_event (event.Entered name caller entering) is = enters-placed order (event.Entered name caller entering) is
    by_event _ is = absurd (cc)

module _ (contract : Contract) (side : Side) (zones : List ℕ) where
  -- an order stands elsewhere
  abbrev pub is_out : Placed → Bool
  is_out order = not (has order.order.zone zones)

  -- those that do, of a line
  pub line-elsewhere : (events : List Event)
      → filter (is_elsewhere zones) (line events contract side)
      ≡ in_order (priority_cmp side) (map (standing events) (filter is_out (filter (stands_in events contract side) (placed events))))
  unfolding line
  line-elsewhere events =
      filter-in_order (priority_cmp side) (priority_weak side) (is_elsewhere zones) (map (standing events) (filter (stands_in events contract side) (placed events)))
      ∙ ap (in_order (priority_cmp side)) (filter-map (is_elsewhere zones) (standing events) (filter (stands_in events contract side) (placed events)))

  module _ (setup : Setup) (whole : List Event) (fit : FitAfter setup [] whole) (before : List Event) (e : Event) (are : AreIn (and_then before e) whole)
      (among : AreAmong (order_zones before e contract side) zones) where
    -- of those the event concerns none
    not_concerned : (order : Placed) → IsIn order (placed (and_then before e)) → is_out order ≡ true → is_of contract side order ≡ true
        → concerns order.name e ≡ false
    not_concerned order there out of = go (concerns order.name e) refl
      where
        go : (b : Bool) → concerns order.name e ≡ b → b ≡ false
        go false is = refl
        go true is =
            let own : IsIn e (and_then before e) = IsIn-right e before (e ∷ []) (inl refl) in
            let named : is_named e order ≡ true =
            sym (concerned-named setup whole fit e (are e own) order (placed-in (and_then before e) whole are order there)) ∙ is in
            let zone = among order.order.zone
            (IsIn-map (λ (o : Placed). o.order.zone) order (filter (is_of contract side) (filter (is_named e) (placed (and_then before e))))
            (IsIn-filter (is_of contract side) order (filter (is_named e) (placed (and_then before e)))
            (IsIn-filter (is_named e) order (placed (and_then before e)) there named) of)) in
            absurd (true≢false (sym out ∙ ap not (has-IsIn order.order.zone zones zone)))

    -- they stand after it as before
    stand-same : (order : Placed) → IsIn order (placed (and_then before e)) → is_out order ≡ true
        → stands_in (and_then before e) contract side order ≡ stands_in before contract side order
    stand-same order there out =
        and-joined (is_open (and_then before e) order.name) (same_contract order.order.contract contract) (same_side order.order.side side)
        ∙ and-right (is_open (and_then before e) order.name) (is_open before order.name) (is_of contract side order)
        (λ of. ap (nat_lt 0) (left-kept before e order.name (not_concerned order there out of)))
        ∙ sym (and-joined (is_open before order.name) (same_contract order.order.contract contract) (same_side order.order.side side))

    -- what stands in the line is of the contract and side
    of-line : (order : Placed) → stands_in before contract side order ≡ true → is_of contract side order ≡ true
    of-line order stands =
        (and_parts (is_open before order.name) (is_of contract side order)
        (sym (and-joined (is_open before order.name) (same_contract order.order.contract contract) (same_side order.order.side side)) ∙ stands)).1

    -- an order that it brings is none of them
    none-new : (order : Placed) → IsIn order (filter_map placed_by (e ∷ [])) → is_out order ≡ true → stands_in before contract side order ≡ false
    none-new order new out = go (stands_in before contract side order) refl
      where
        there : IsIn order (placed (and_then before e))
        there = subst (IsIn order) (sym (filter_map-append placed_by before (e ∷ []))) (IsIn-right order (placed before) (filter_map placed_by (e ∷ [])) new)

        go : (b : Bool) → stands_in before contract side order ≡ b → b ≡ false
        go false is = refl
        go true is = absurd (true≢false (sym (brought-concerned order e new) ∙ not_concerned order there out (of-line order is)))

    -- so those that stand elsewhere stay as they were
    stay : filter is_out (filter (stands_in (and_then before e) contract side) (placed (and_then before e)))
        ≡ filter is_out (filter (stands_in before contract side) (placed before))
    stay =
        filters-same is_out (stands_in (and_then before e) contract side) (stands_in before contract side) (placed (and_then before e)) (λ order i out. stand-same order i out)
        ∙ ap (λ orders. filter is_out (filter (stands_in before contract side) orders)) (filter_map-append placed_by before (e ∷ []))
        ∙ ap (filter is_out) (filter-append (stands_in before contract side) (placed before) (filter_map placed_by (e ∷ [])))
        ∙ filter-append is_out (filter (stands_in before contract side) (placed before)) (filter (stands_in before contract side) (filter_map placed_by (e ∷ [])))
        ∙ ap (λ orders. filter is_out (filter (stands_in before contract side) (placed before)) ++ orders)
        (filters-none is_out (stands_in before contract side) (filter_map placed_by (e ∷ [])) (λ order i out. none-new order i out))
        ∙ append-nil (filter is_out (filter (stands_in before contract side) (placed before)))

    stand-alike : (order : Placed) → IsIn order (filter is_out (filter (stands_in before contract side) (placed before)))
        → standing (and_then before e) order ≡ standing before order
    stand-alike order i =
        let passes = from_filter is_out order (filter (stands_in before contract side) (placed before)) i in
        let stands = from_filter (stands_in before contract side) order (placed before) passes.0 in
        standing-kept before e order (not_concerned order (picked-stays placed_by order before (e ∷ []) stands.0) passes.1 (of-line order stands.1))

    orders-same : filter (is_elsewhere zones) (line (and_then before e) contract side) ≡ filter (is_elsewhere zones) (line before contract side)
    orders-same =
        line-elsewhere (and_then before e)
        ∙ ap (in_order (priority_cmp side)) (
        ap (map (standing (and_then before e))) stay
        ∙ map-same (standing (and_then before e)) (standing before) (filter is_out (filter (stands_in before contract side) (placed before))) (λ order i. stand-alike order i)
        )
        ∙ sym (line-elsewhere before)

    pub seen-same : seen_elsewhere (and_then before e) contract side zones ≡ seen_elsewhere before contract side zones
    seen-same = ap (map maker_of) orders-same

  -- and after several events
  pub seen-run : (setup : Setup) (whole : List Event) (fit : FitAfter setup [] whole) (before events : List Event) → AreIn (before ++ events) whole
      → AreAmong (zones_of_events before events contract side) zones
      → seen_elsewhere (before ++ events) contract side zones ≡ seen_elsewhere before contract side zones
  seen-run setup whole fit before [] are among = ap (λ es. seen_elsewhere es contract side zones) (append-nil before)
  seen-run setup whole fit before (e ∷ events) are among =
      let first : List ℕ = order_zones before e contract side in
      let later : List ℕ = zones_of_events (and_then before e) events contract side in
      let all_in : AreIn (and_then before e ++ events) whole = subst (λ es. AreIn es whole) (sym (append_snoc before e events)) are in
      let rest = seen-run setup whole fit (and_then before e) events all_in (λ zone i. among zone (IsIn-right zone first later i)) in
      subst (λ es. seen_elsewhere es contract side zones ≡ seen_elsewhere before contract side zones) (append_snoc before e events)
      (rest ∙ seen-same setup whole fit before e (λ f i. all_in f (IsIn-left f (and_then before e) events i)) (λ zone i. among zone (IsIn-left zone first later i)))
