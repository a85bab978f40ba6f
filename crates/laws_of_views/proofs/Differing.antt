-- Lists of events that differ in some zones alone.
use Rattle.std.proofs.Common.{◌≡◌, ◌∙◌, ◌||◌, inl, inr, ℕ, Bool, true, false, cond, not, List, [], ◌∷◌, ◌++◌, filter, map, nat_eq, eqb-true, refl, sym, ap, subst}
use Rattle.std.proofs.lemmas.Bool.{and_from, and_parts, eqb-false, true≢false}
use Rattle.std.proofs.Math.Seq.{append_snoc}
use Rattle.std.specs.List.{list_any}
use Rattle.order_kinds.specs.declared.contract.Contract.{Contract}
use Rattle.order_kinds.specs.declared.order.OrderName.{OrderName}
use Rattle.order_kinds.specs.declared.side.Side.{Side}
use Rattle.order_kinds.specs.Period.{contract_quarters}
use Rattle.order_kinds.specs.Same.{same_name}
use Rattle.zone_graph.specs.declared.route.Arc.{Arc}
use Rattle.zone_graph.specs.Graph.{Graph, HasArc, HasZone, end_of, start_of}
use Rattle.zone_graph.specs.Route.{IsIn, has}
use Rattle.zone_graph.proofs.Membership.{IsIn-append, IsIn-filter, IsIn-has, IsIn-left, IsIn-map, IsIn-right, from_filter, from_map, has-IsIn}
use Rattle.market_model.specs.declared.event.Event.{Event}
use Rattle.market_model.specs.declared.setup.Setup.{Setup}
use Rattle.market_model.specs.Grid.{graph_of}
use Rattle.market_model.specs.History.{and_then, touches}
use Rattle.market_model.specs.Lines.{line}
use Rattle.market_model.specs.Orders.{Placed, Standing, placed}
use Rattle.market_model.specs.Room.{room}
use Rattle.market_model.specs.WellFormed.{FitAfter}
use Rattle.laws_of_market.proofs.Growing.{fit-append}
use Rattle.laws_of_market.proofs.Names.{names-once}
use Rattle.laws_of_market.proofs.Placed.{all_are_sound}
use Rattle.laws_of_market.proofs.Repeats.{fit-more}
use Rattle.laws_of_market.proofs.Tests.{same_name-eq}
use Rattle.laws_of_market.proofs.Unique.{one_order, order_is_no_block}
use Rattle.laws_of_market.proofs.Restrict.{filter-filter, filter-map}
use Rattle.laws_of_rows.specs.declared.trades.Maker.{Maker}
use Rattle.laws_of_rows.specs.Depth.{maker_of}
use Rattle.laws_of_views.specs.Nearby.{is_elsewhere, is_within, seen_elsewhere}
use Rattle.laws_of_views.specs.Changes.{AreAmong, ChangesOfAnHourStayWithin, ChangesStayWithin, DifferencesJoin, DifferencesWiden, EventsStayWithin, NamedOrdersHaveTheZones, OrdersChangeInTheirZones, OtherEventsChangeNoOrders, RoomsDifferWithin, ZonesOfEventsAreOfTheGrid, is_named, order_names, order_zones, zones_in, zones_of_events}
use Rattle.laws_of_views.proofs.NamedElsewhere.{AreIn, placed-in}
use Rattle.laws_of_views.proofs.Orders.{is_of, seen-run, seen-same}

-- ---- one event

pub orders_change : OrdersChangeInTheirZones
orders_change setup before e contract side zones fit fits among =
    seen-same contract side zones setup (and_then before e) (fit-more setup before e fit fits) before e (λ f i. i) among

pub no_orders : OtherEventsChangeNoOrders
no_orders before e contract side none =
    ap (zones_in contract side) (nothing (placed (and_then before e)))
  where
    nothing : (orders : List Placed) → filter (is_named e) orders ≡ []
    nothing [] = refl
    nothing (order ∷ orders) = ap (λ names. filter-one (list_any (λ name. same_name name order.name) names)) none ∙ nothing orders
      where
        filter-one : Bool → List Placed
        filter-one b = cond b (order ∷ filter (is_named e) orders) (filter (is_named e) orders)

-- the name of a named order
name-of : (names : List OrderName) (order : Placed) → list_any (λ name. same_name name order.name) names ≡ true → IsIn order.name names
name-of [] order is = absurd (true≢false (sym is))
name-of (name ∷ names) order is = go (same_name name order.name) refl is (name-of names order)
  where
    go : (b : Bool) → same_name name order.name ≡ b → (b || list_any (λ name. same_name name order.name) names) ≡ true
        → (list_any (λ name. same_name name order.name) names ≡ true → IsIn order.name names) → IsIn order.name (name ∷ names)
    go true same k later = inl (sym (same_name-eq name order.name same))
    go false other k later = inr (later k)

pub named_zones : NamedOrdersHaveTheZones
named_zones setup before e contract side orders fit fits each zone i =
    let events : List Event = and_then before e in
    let once = names-once setup events (fit-more setup before e fit fits) in
    let from = from_map (λ (o : Placed). o.order.zone) zone (filter (is_of contract side) (filter (is_named e) (placed events))) i in
    let of = from_filter (is_of contract side) from.0 (filter (is_named e) (placed events)) from.1 in
    let named = from_filter (is_named e) from.0 (placed events) of.0 in
    let known : IsIn from.0 orders = elim (each from.0.name (name-of (order_names e) from.0 named.1)) [
      | inl order ↦ subst (λ o. IsIn o orders) (one_order events once order.0 from.0 order.2 named.0 order.3) order.1
      | inr block ↦ absurd (order_is_no_block events once from.0 block.0 named.0 block.1 (sym block.2))
    ] in
    subst (λ z. IsIn z (zones_in contract side orders)) (sym from.2)
    (IsIn-map (λ (o : Placed). o.order.zone) from.0 (filter (is_of contract side) orders) (IsIn-filter (is_of contract side) from.0 orders known of.1))

-- ---- rooms

-- where the rooms that differ lie within some zones, the others are the same
same-elsewhere : (graph : Graph) (before after : List Event) (contract : Contract) (zones : List ℕ) → RoomsDifferWithin graph before after contract zones
    → (arc : Arc) → HasArc graph arc → is_within graph zones arc ≡ false
    → room after (contract_quarters contract) arc ≡ room before (contract_quarters contract) arc
same-elsewhere graph before after contract zones within arc known apart = go (nat_eq new old) refl
  where
    new : ℕ
    new = room after (contract_quarters contract) arc

    old : ℕ
    old = room before (contract_quarters contract) arc

    go : (b : Bool) → nat_eq new old ≡ b → new ≡ old
    go true same = eqb-true new old same
    go false other = absurd (true≢false (sym (within arc known (eqb-false new old other)) ∙ apart))

pub event_within : EventsStayWithin
event_within setup before e contract side zones fit fits among within = record {
  orders = orders_change setup before e contract side zones fit fits among;
  rooms = same-elsewhere (graph_of setup) before (and_then before e) contract zones within;
}

pub changes_within : ChangesStayWithin
changes_within setup before events contract side zones fit fit_too among within = record {
  orders = seen-run contract side zones setup (before ++ events) (fit-append setup [] before events fit fit_too) before events (λ e i. i) among;
  rooms = same-elsewhere (graph_of setup) before (before ++ events) contract zones within;
}

pub hour_changes_within : ChangesOfAnHourStayWithin
hour_changes_within graph hour before events contract side zones stands among within = record {
  orders = seen-run contract side zones stands.setup stands.history stands.fit before events
      (λ e i. (from_filter (touches hour) e stands.history (subst (IsIn e) (sym stands.in_hour) i)).0) among;
  rooms = same-elsewhere graph before (before ++ events) contract zones within;
}

-- the zones of events are of the grid
zones-known : (setup : Setup) (whole : List Event) → FitAfter setup [] whole → (before events : List Event) (contract : Contract) (side : Side) (zone : ℕ)
    → AreIn (before ++ events) whole → IsIn zone (zones_of_events before events contract side) → HasZone (graph_of setup) zone
zones-known setup whole fit before [] contract side zone are i = absurd i
zones-known setup whole fit before (e ∷ events) contract side zone are i =
    elim (IsIn-append zone (order_zones before e contract side) (zones_of_events (and_then before e) events contract side) i) [
      | inl first ↦ own first
      | inr later ↦ zones-known setup whole fit (and_then before e) events contract side zone all_in later
    ]
  where
    all_in : AreIn (and_then before e ++ events) whole
    all_in = subst (λ es. AreIn es whole) (sym (append_snoc before e events)) are

    own : IsIn zone (order_zones before e contract side) → HasZone (graph_of setup) zone
    own first =
        let from = from_map (λ (o : Placed). o.order.zone) zone (filter (is_of contract side) (filter (is_named e) (placed (and_then before e)))) first in
        let of = from_filter (is_of contract side) from.0 (filter (is_named e) (placed (and_then before e))) from.1 in
        let there = (from_filter (is_named e) from.0 (placed (and_then before e)) of.0).0 in
        let known = placed-in (and_then before e) whole (λ f k. all_in f (IsIn-left f (and_then before e) events k)) from.0 there in
        subst (HasZone (graph_of setup)) (sym from.2) ((all_are_sound setup whole fit).orders from.0 known).in_zone

pub grid_zones : ZonesOfEventsAreOfTheGrid
grid_zones graph hour before events contract side zone stands i =
    subst (λ g. HasZone g zone) stands.over_grid
    (zones-known stands.setup stands.history stands.fit before events contract side zone
    (λ e k. (from_filter (touches hour) e stands.history (subst (IsIn e) (sym stands.in_hour) k)).0) i)

-- ---- more zones

-- what is elsewhere than in more zones is elsewhere than in these
fewer : (zone : ℕ) (zones others : List ℕ) → AreAmong zones others → has zone others ≡ false → has zone zones ≡ false
fewer zone zones others among apart = go (has zone zones) refl
  where
    go : (b : Bool) → has zone zones ≡ b → b ≡ false
    go false is = refl
    go true is = absurd (true≢false (sym (has-IsIn zone others (among zone (IsIn-has zone zones is))) ∙ apart))

fewer-not : (zone : ℕ) (zones others : List ℕ) → AreAmong zones others → not (has zone others) ≡ true → not (has zone zones) ≡ true
fewer-not zone zones others among apart = ap not (fewer zone zones others among (not-true (has zone others) apart))
  where
    not-true : (b : Bool) → not b ≡ true → b ≡ false
    not-true true is = sym is
    not-true false is = refl

fewer-within : (graph : Graph) (zones others : List ℕ) (arc : Arc) → AreAmong zones others → is_within graph others arc ≡ false → is_within graph zones arc ≡ false
fewer-within graph zones others arc among apart = go (is_within graph zones arc) refl
  where
    go : (b : Bool) → is_within graph zones arc ≡ b → b ≡ false
    go false is = refl
    go true is =
        let both = and_parts (has (start_of graph arc) zones) (has (end_of graph arc) zones) is in
        let more = λ (zone : ℕ) (h : has zone zones ≡ true). has-IsIn zone others (among zone (IsIn-has zone zones h)) in
        absurd (true≢false
        (sym (and_from (has (start_of graph arc) others) (has (end_of graph arc) others) (more (start_of graph arc) both.0) (more (end_of graph arc) both.1)) ∙ apart))

-- what is seen elsewhere than in more zones is part of what is seen elsewhere than in these
seen-fewer : (events : List Event) (contract : Contract) (side : Side) (zones others : List ℕ) → AreAmong zones others
    → filter (λ (maker : Maker). not (has maker.zone others)) (seen_elsewhere events contract side zones) ≡ seen_elsewhere events contract side others
seen-fewer events contract side zones others among =
    filter-map (λ (maker : Maker). not (has maker.zone others)) maker_of (filter (is_elsewhere zones) (line events contract side))
    ∙ ap (map maker_of) (filter-filter (is_elsewhere others) (is_elsewhere zones) (line events contract side) (λ (order : Standing) i apart. fewer-not order.order.zone zones others among apart))

pub widen : DifferencesWiden
widen graph before after contract side zones others among differ = record {
  orders =
      sym (seen-fewer after contract side zones others among)
      ∙ ap (filter (λ (maker : Maker). not (has maker.zone others))) differ.orders
      ∙ seen-fewer before contract side zones others among;
  rooms = λ arc known apart. differ.rooms arc known (fewer-within graph zones others arc among apart);
}

pub join : DifferencesJoin
join graph first second third contract side zones others differ differ_too =
    let one = widen graph first second contract side zones (zones ++ others) (λ zone i. IsIn-left zone zones others i) differ in
    let two = widen graph second third contract side others (zones ++ others) (λ zone i. IsIn-right zone zones others i) differ_too in
    record {
      orders = two.orders ∙ one.orders;
      rooms = λ arc known apart. two.rooms arc known apart ∙ one.rooms arc known apart;
    }
