-- A taking to its end: what it obtains, and what is then left of the bound of the zones in reach.
use Rattle.std.proofs.Common.{◌≡◌, ◌∙◌, ◌⊎◌, inl, inr, ℕ, ◌+◌, ◌-◌, ◌*◌, ◌/◌, ◌&&◌, Bool, true, false, List, [], ◌∷◌, filter, fold, sum_by, ℤ, pos, ◌+ℤ◌, ◌-ℤ◌, Option, Some, None, refl, sym, ap, subst, arith}
use Rattle.std.proofs.lemmas.Bool.{and_from, ltb-false, true≢false}
use Rattle.std.proofs.lemmas.List.Sums.{sum_by-cons}
use Rattle.std.specs.List.{cons_option, filter_map}
use Rattle.std.specs.Option.{option_and_then, option_map}
use Rattle.order_kinds.specs.declared.order.Kind.{Kind}
use Rattle.order_kinds.specs.declared.order.Kind.TheVariants as kind
use Rattle.order_kinds.specs.declared.order.Order.{Order}
use Rattle.order_kinds.specs.declared.price.Price.{Price}
use Rattle.order_kinds.specs.declared.side.Side.{Side}
use Rattle.order_kinds.specs.declared.side.Side.TheVariants.{Buy, Sell}
use Rattle.order_kinds.specs.Order.{peak_price}
use Rattle.order_kinds.specs.Period.{contract_quarters}
use Rattle.order_kinds.specs.Same.{same_name}
use Rattle.order_kinds.specs.Side.{crosses, opposite}
use Rattle.zone_graph.specs.declared.route.Arc.{Arc}
use Rattle.zone_graph.specs.Graph.{Graph, HasZone, IsGraph}
use Rattle.zone_graph.specs.Reach.{reaches}
use Rattle.zone_graph.specs.Route.{IsIn, has}
use Rattle.zone_graph.specs.Steps.{IsRun}
use Rattle.zone_graph.proofs.BestRoute.{reaches-route}
use Rattle.zone_graph.proofs.Finding.{find-IsIn, find-none, from_find}
use Rattle.zone_graph.proofs.Membership.{from_filter}
use Rattle.cut_proof.proofs.ArcSums.{sum_nothing}
use Rattle.cut_proof.proofs.ReachLaws.{beyond-has, has-beyond, has-towards, no_room_enters, no_room_leaves, towards-has}
use Rattle.market_model.specs.declared.event.Event.{Event}
use Rattle.market_model.specs.declared.event.Event.TheVariants as event
use Rattle.market_model.specs.declared.event.Leg.{Leg}
use Rattle.market_model.specs.Certificate.{crossing_lots, room_across, zones_in_reach}
use Rattle.market_model.specs.History.{and_then}
use Rattle.market_model.specs.Lines.{buyer_zone, can_trade, line, partner, rooms_for, seller_zone}
use Rattle.market_model.specs.Orders.{Placed, Standing, is_open, left, open_order, placed, price_now, standing}
use Rattle.market_model.specs.Room.{room}
use Rattle.market_model.specs.Taking.{next_leg, trade}
use Rattle.market_model.specs.View.{trade_of}
use Rattle.laws_of_market.proofs.Balances.{left-leg, names-taker, shown-le-left}
use Rattle.laws_of_market.proofs.Lines.{no_trade}
use Rattle.laws_of_market.proofs.Tests.{same_name-eq, same_name-refl}
use Rattle.laws_of_market.proofs.Trades.{from_line, partner-is}
use Rattle.laws_of_market.proofs.Unique.{one_order}
use Rattle.laws_of_maximum.specs.Takings.{HasNoDelta, lots_traded}
use Rattle.laws_of_maximum.proofs.BoundsFall.{bound-falls, left_bound}
use Rattle.laws_of_maximum.proofs.CrossingPeaks.{crosses-none}
use Rattle.laws_of_maximum.proofs.Takers.{CanTake, IsTakersLeg, can-after, placed-after, takers-leg}

-- ---- the price of a taker

no_change : (price : ℤ) (number : ℕ) → price +ℤ pos (0 * number) ≡ price
no_change price number = grind arith

no_change_back : (price : ℤ) (number : ℕ) → price -ℤ pos (0 * number) ≡ price
no_change_back price number = grind arith

one_price : (side : Side) (price : Price) (number : ℕ) → peak_price side price 0 number ≡ price
one_price Buy price number = λ i. record { 0 = no_change_back price.0 number i }
one_price Sell price number = λ i. record { 0 = no_change price.0 number i }

-- an iceberg at one price keeps it
pub price-flat : (order : Order) (filled : ℕ) → HasNoDelta order.kind → price_now order filled ≡ order.price
price-flat order filled = go order.kind refl
  where
    go : (k : Kind) → order.kind ≡ k → HasNoDelta order.kind → price_now order filled ≡ order.price
    go kind.Limit is = rw is (λ flat. refl)
    go kind.Ioc is = rw is (λ flat. refl)
    go kind.Fok is = rw is (λ flat. refl)
    go (kind.Iceberg peak delta) is = rw is (λ flat. ap (λ d. peak_price order.side order.price d (filled / peak.0)) flat ∙ one_price order.side order.price (filled / peak.0))

-- ---- leg by leg

lots-cons : (e : Event) (leg : Leg) (events : List Event) → trade_of e ≡ Some leg → lots_traded (e ∷ events) ≡ leg.lots + lots_traded events
lots-cons e leg events is =
    ap (λ o. sum_by (λ (l : Leg). l.lots) (cons_option o (filter_map trade_of events))) is ∙ sum_by-cons (λ (l : Leg). l.lots) leg (filter_map trade_of events)

module _ (graph : Graph) (is_graph : IsGraph graph) (taker : Placed) (flat : HasNoDelta taker.order.kind) where
  -- a leg is a trade, and lowers what is left of the taker
  traded-by : (V : List Event) (e : Event) (next : IsTakersLeg graph V taker e) → trade_of e ≡ Some next.leg
  traded-by V e next = ap trade_of (sym next.is)

  left-by : (V : List Event) (e : Event) (next : IsTakersLeg graph V taker e) → left (and_then V e) taker.name ≡ left V taker.name - next.leg.lots
  left-by V e next =
      let named = subst (λ n. left (and_then V (event.Leg taker.order.contract next.leg)) n ≡ left V n - next.leg.lots) next.taker_is
      (left-leg V taker.order.contract next.leg next.leg.taker (names-taker next.leg)) in
      subst (λ x. left (and_then V x) taker.name ≡ left V taker.name - next.leg.lots) next.is named

  -- the lots of the legs are what they take from what is left of the taker, and from the bound of a
  -- set of zones that has its zone
  pub record HasTaken (V : List Event) (legs : List Event) (zones : List ℕ) : Type 0 where
    pub can : CanTake (fold and_then V legs)
    pub there : IsIn taker (placed (fold and_then V legs))
    pub from_left : lots_traded legs + left (fold and_then V legs) taker.name ≡ left V taker.name
    pub from_bound : has taker.order.zone zones ≡ true → lots_traded legs + left_bound graph (fold and_then V legs) taker.order zones ≡ left_bound graph V taker.order zones

  pub taken-by : (V : List Event) (legs : List Event) (zones : List ℕ) → CanTake V → IsIn taker (placed V) → IsRun (next_leg graph taker.name) and_then V legs → HasTaken V legs zones
  taken-by V [] zones can there run = record { can = can; there = there; from_left = omega arith; from_bound = λ inside. omega arith }
  taken-by V (e ∷ legs) zones can there run =
      let next = takers-leg graph is_graph V can taker e there run.0 in
      let rest = taken-by (and_then V e) legs zones (can-after graph is_graph V can taker e next)
      (subst (IsIn taker) (sym (placed-after graph is_graph V can taker e next)) there) run.1 in
      let sums = lots-cons e next.leg legs (traded-by V e next) in
      let lowers = left-by V e next in
      let shows = next.taker_shows in
      record {
        can = rest.can;
        there = rest.there;
        from_left = (let lower = rest.from_left in let most = shown-le-left taker.order.kind (standing V taker).filled (left V taker.name) in omega (arith, sums, lowers, lower, shows, most));
        from_bound = λ inside. (
            let falls = bound-falls graph is_graph V can taker there e next (price-flat taker.order (standing V taker).filled flat) zones inside in
            let lower = rest.from_bound inside in
            omega (arith, sums, falls, lower));
      }

  -- ---- the end

  module _ (V : List Event) (can : CanTake V) (there : IsIn taker (placed V)) (known : HasZone graph taker.order.zone) where
    abbrev own : Standing
    own = standing V taker

    abbrev rooms : Arc → ℕ
    rooms = room V (contract_quarters taker.order.contract)

    abbrev reached : List ℕ
    reached = zones_in_reach graph rooms taker.order.side taker.order.zone

    -- the taker's zone is in reach
    pub own_reached : has taker.order.zone reached ≡ true
    own_reached = by taker.order.side
      where
        itself : reaches graph rooms taker.order.zone taker.order.zone ≡ true
        itself = reaches-route graph rooms taker.order.zone taker.order.zone [] is_graph (record { way = refl; simple = (λ h. h, tt) })

        by : (side : Side) → has taker.order.zone (zones_in_reach graph rooms side taker.order.zone) ≡ true
        by Buy = has-towards graph rooms taker.order.zone taker.order.zone known itself
        by Sell = has-beyond graph rooms taker.order.zone taker.order.zone known itself

    -- a route leads between the taker and an order of a zone in reach
    in_reach : (other : Standing) → has other.order.zone reached ≡ true → reaches graph rooms (seller_zone own other) (buyer_zone own other) ≡ true
    in_reach other = by taker.order.side refl
      where
        by : (side : Side) → taker.order.side ≡ side → has other.order.zone reached ≡ true → reaches graph rooms (seller_zone own other) (buyer_zone own other) ≡ true
        by Buy is = rw is (λ h. towards-has graph rooms taker.order.zone other.order.zone h)
        by Sell is = rw is (λ h. beyond-has graph rooms taker.order.zone other.order.zone h)

    -- where the taker has no partner nothing crosses in the zones in reach
    nothing_left : partner graph V own ≡ None → left_bound graph V taker.order reached ≡ 0
    unfolding partner
    nothing_left none =
        let inside = filter (λ (s : Standing). has s.order.zone reached) (line V taker.order.contract (opposite taker.order.side)) in
        let crossing : sum_by (crossing_lots taker.order) inside ≡ 0 = sum_nothing (crossing_lots taker.order) inside each in
        omega (arith, crossing, across taker.order.side refl)
      where
        each : (s : Standing) → IsIn s (filter (λ (s : Standing). has s.order.zone reached) (line V taker.order.contract (opposite taker.order.side))) → crossing_lots taker.order s ≡ 0
        each s i =
            let found = from_filter (λ (s : Standing). has s.order.zone reached) s (line V taker.order.contract (opposite taker.order.side)) i in
            let in_line = from_line V taker.order.contract (opposite taker.order.side) s found.0 in
            let trades_not = find-none (can_trade graph rooms own) (line V taker.order.contract (opposite taker.order.side)) none s found.0 in
            let price_not : crosses taker.order.side own.price s.price ≡ false = first_false (crosses taker.order.side own.price s.price)
            (ap (λ b. crosses taker.order.side own.price s.price && b) (sym (in_reach s found.1)) ∙ trades_not) in
            subst (λ (x : Standing). crossing_lots taker.order x ≡ 0) (sym in_line.is)
            (crosses-none taker.order in_line.order.order (standing V in_line.order).filled (standing V in_line.order).left in_line.on_side
            (subst (λ price. crosses taker.order.side price (standing V in_line.order).price ≡ false) (price-flat taker.order own.filled flat)
            (subst (λ (x : Standing). crosses taker.order.side own.price x.price ≡ false) in_line.is price_not)))
          where
            first_false : (a : Bool) → (a && true) ≡ false → a ≡ false
            first_false true e = e
            first_false false e = refl

        across : (side : Side) → taker.order.side ≡ side → room_across graph rooms taker.order.side reached ≡ 0
        across Buy is = rw is (no_room_enters graph rooms taker.order.zone is_graph)
        across Sell is = rw is (no_room_leaves graph rooms taker.order.zone is_graph)

    -- where there is no next leg the taker is filled or has no partner
    no_partner : is_open V taker.name ≡ true → next_leg graph taker.name V ≡ None → partner graph V own ≡ None
    unfolding next_leg
    no_partner opened none = go (partner graph V own) refl
      where
        found : open_order V taker.name ≡ Some taker
        found =
            let test : Placed → Bool = λ order. same_name order.name taker.name && is_open V order.name in
            let passes : test taker ≡ true = and_from (same_name taker.name taker.name) (is_open V taker.name) (same_name-refl taker.name) opened in
            let some = find-IsIn test (placed V) taker there passes in
            let from = from_find test some.0 (placed V) some.1 in
            let same : some.0 ≡ taker = one_order V can.names some.0 taker from.0 there (same_name-eq some.0.name taker.name (first_true (same_name some.0.name taker.name) (is_open V some.0.name) from.1)) in
            some.1 ∙ ap Some same
          where
            first_true : (a b : Bool) → (a && b) ≡ true → a ≡ true
            first_true true b e = refl
            first_true false b e = e

        at_own : option_and_then (λ other. trade graph V own other) (partner graph V own) ≡ None
        at_own = sym (ap (λ o. option_and_then (λ s. option_and_then (trade graph V s) (partner graph V s)) (option_map (standing V) o)) found) ∙ none

        go : (o : Option Standing) → partner graph V own ≡ o → partner graph V own ≡ None
        go None is = is
        go (Some other) is =
            let its = partner-is graph V own other is in
            let not_traded : trade graph V own other ≡ None = ap (option_and_then (λ s. trade graph V own s)) (sym is) ∙ at_own in
            let away = no_trade graph V own other not_traded in
            absurd (true≢false (sym (second_true (crosses own.order.side own.price other.price) (reaches graph (rooms_for V own) (seller_zone own other) (buyer_zone own other)) its.can_trade) ∙ away))
          where
            second_true : (a b : Bool) → (a && b) ≡ true → b ≡ true
            second_true true b e = e
            second_true false b e = absurd (true≢false (sym e))

    pub ended : next_leg graph taker.name V ≡ None → (left V taker.name ≡ 0) ⊎ (left_bound graph V taker.order reached ≡ 0)
    ended none = go (is_open V taker.name) refl
      where
        go : (b : Bool) → is_open V taker.name ≡ b → (left V taker.name ≡ 0) ⊎ (left_bound graph V taker.order reached ≡ 0)
        go true opened = inr (nothing_left (no_partner opened none))
        go false closed = inl (let none_left = ltb-false 0 (left V taker.name) closed in omega (arith, none_left))
