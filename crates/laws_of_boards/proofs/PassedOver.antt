-- A leg of a taker brings it no one to trade with.
use Rattle.std.proofs.Common.{◌≡◌, ◌∙◌, ℕ, ◌*◌, ◌/◌, ◌≤◌, Bool, true, false, List, ℤ, pos, ◌+ℤ◌, ◌-ℤ◌, int_le, refl, sym, ap, subst, arith}
use Rattle.std.proofs.Math.Nat.{mul-le-mul_left}
use Rattle.std.proofs.Math.Path.{fun_ext}
use Rattle.std.proofs.lemmas.Bool.{and_from, and_parts, false_from_ne_true, true≢false}
use Rattle.order_kinds.specs.declared.order.Kind.{Kind}
use Rattle.order_kinds.specs.declared.order.Kind.TheVariants as kind
use Rattle.order_kinds.specs.declared.order.Order.{Order}
use Rattle.order_kinds.specs.declared.price.Price.{Price}
use Rattle.order_kinds.specs.declared.side.Side.{Side}
use Rattle.order_kinds.specs.declared.side.Side.TheVariants.{Buy, Sell}
use Rattle.order_kinds.specs.Order.{peak_price}
use Rattle.order_kinds.specs.Period.{contract_quarters}
use Rattle.order_kinds.specs.Side.{crosses}
use Rattle.zone_graph.specs.declared.route.Arc.{Arc}
use Rattle.zone_graph.specs.Graph.{Graph, IsGraph}
use Rattle.zone_graph.specs.Pour.{room_after}
use Rattle.zone_graph.specs.Reach.{reaches}
use Rattle.zone_graph.specs.Route.{IsIn, IsRoute}
use Rattle.iceberg_peak.proofs.PeakLemmas.{number-rises}
use Rattle.cut_proof.proofs.ReachLaws.{reach_from_start, reach_to_end}
use Rattle.market_model.specs.declared.event.Event.{Event}
use Rattle.market_model.specs.Grid.{graph_of}
use Rattle.market_model.specs.History.{and_then}
use Rattle.market_model.specs.Lines.{buyer_zone, can_trade, rooms_for, seller_zone}
use Rattle.market_model.specs.Orders.{Placed, Standing, filled, placed, price_now, standing}
use Rattle.market_model.specs.Room.{room}
use Rattle.laws_of_market.proofs.States.{filled-more}
use Rattle.laws_of_maximum.specs.Rooms.{route_leg}
use Rattle.laws_of_maximum.proofs.CrossingPeaks.{HasPeaks}
use Rattle.laws_of_maximum.proofs.Obtained.{fit-can_take}
use Rattle.laws_of_maximum.proofs.Takers.{CanTake, IsTakersLeg, rooms-after, takers-leg}
use Rattle.laws_of_boards.specs.Walking.{TakersPassForGood}

-- ---- prices

lower_too : (price other : ℤ) (less more : ℕ) → less ≤ more → int_le other (price -ℤ pos more) ≡ true → int_le other (price -ℤ pos less) ≡ true
lower_too price other less more least h = grind (arith, least, h)

higher_too : (price other : ℤ) (less more : ℕ) → less ≤ more → int_le (price +ℤ pos more) other ≡ true → int_le (price +ℤ pos less) other ≡ true
higher_too price other less more least h = grind (arith, least, h)

-- a later peak of an iceberg crosses no price that an earlier one does not
earlier-crosses : (side : Side) (price other : Price) (delta number later : ℕ) → number ≤ later
    → crosses side (peak_price side price delta later) other ≡ true → crosses side (peak_price side price delta number) other ≡ true
earlier-crosses Buy price other delta number later least h = lower_too price.0 other.0 (delta * number) (delta * later) (mul-le-mul_left delta least) h
earlier-crosses Sell price other delta number later least h = higher_too price.0 other.0 (delta * number) (delta * later) (mul-le-mul_left delta least) h

-- so what crosses after more is filled crossed before
before-crosses : (order : Order) (has more : ℕ) (other : Price) → HasPeaks order.kind → has ≤ more
    → crosses order.side (price_now order more) other ≡ true → crosses order.side (price_now order has) other ≡ true
before-crosses order has more other = go order.kind refl
  where
    go : (k : Kind) → order.kind ≡ k → HasPeaks k → has ≤ more → crosses order.side (price_now order more) other ≡ true → crosses order.side (price_now order has) other ≡ true
    go kind.Limit is some least = rw is (λ h. h)
    go kind.Ioc is some least = rw is (λ h. h)
    go kind.Fok is some least = rw is (λ h. h)
    go (kind.Iceberg peak delta) is some least = rw is (λ h.
        earlier-crosses order.side order.price other delta (has / peak.0) (more / peak.0)
        (number-rises peak.0 has more some least) h)

-- ---- reach

module _ (graph : Graph) (is_graph : IsGraph graph) (events : List Event) (can : CanTake events) (taker : Placed) (e : Event) (next : IsTakersLeg graph events taker e) where
  abbrev own : Standing
  own = standing events taker

  abbrev after : List Event
  after = and_then events e

  abbrev then : Standing
  then = standing after taker

  abbrev rooms : List Event → Arc → ℕ
  rooms V = room V (contract_quarters taker.order.contract)

  one : rooms after ≡ room_after (rooms events) (route_leg next.leg)
  one = fun_ext (rooms-after graph is_graph events can taker e next)

  -- who is reached after the leg was reached before it
  reached-before : (other : Standing) → (side : Side) → taker.order.side ≡ side
      → reaches graph (rooms after) (seller_zone then other) (buyer_zone then other) ≡ true → reaches graph (rooms events) (seller_zone own other) (buyer_zone own other) ≡ true
  reached-before other Buy is h =
      let to_own : reaches graph (rooms after) other.order.zone taker.order.zone ≡ true = subst (λ b. b ≡ true) (buys after) h in
      buys events ∙ go (reaches graph (rooms events) other.order.zone taker.order.zone) refl to_own
    where
      buys : (V : List Event) → reaches graph (rooms V) (seller_zone (standing V taker) other) (buyer_zone (standing V taker) other) ≡ reaches graph (rooms V) other.order.zone taker.order.zone
      buys V = rw is refl

      to : (maker : Placed) → buyer_zone own (standing events maker) ≡ taker.order.zone
      to maker = rw is refl

      route : IsRoute graph (rooms events) (seller_zone own (standing events next.maker)) taker.order.zone next.leg.route
      route = subst (λ z. IsRoute graph (rooms events) (seller_zone own (standing events next.maker)) z next.leg.route) (to next.maker) next.fits.is_route

      go : (b : Bool) → reaches graph (rooms events) other.order.zone taker.order.zone ≡ b → reaches graph (rooms after) other.order.zone taker.order.zone ≡ true → b ≡ true
      go true there k = refl
      go false away k =
          let still = reach_to_end graph (rooms events) (seller_zone own (standing events next.maker)) taker.order.zone other.order.zone (route_leg next.leg) is_graph route away in
          absurd (true≢false (sym k ∙ ap (λ r. reaches graph r other.order.zone taker.order.zone) one ∙ still))
  reached-before other Sell is h =
      let from_own : reaches graph (rooms after) taker.order.zone other.order.zone ≡ true = subst (λ b. b ≡ true) (sells after) h in
      sells events ∙ go (reaches graph (rooms events) taker.order.zone other.order.zone) refl from_own
    where
      sells : (V : List Event) → reaches graph (rooms V) (seller_zone (standing V taker) other) (buyer_zone (standing V taker) other) ≡ reaches graph (rooms V) taker.order.zone other.order.zone
      sells V = rw is refl

      from : (maker : Placed) → seller_zone own (standing events maker) ≡ taker.order.zone
      from maker = rw is refl

      route : IsRoute graph (rooms events) taker.order.zone (buyer_zone own (standing events next.maker)) next.leg.route
      route = subst (λ z. IsRoute graph (rooms events) z (buyer_zone own (standing events next.maker)) next.leg.route) (from next.maker) next.fits.is_route

      go : (b : Bool) → reaches graph (rooms events) taker.order.zone other.order.zone ≡ b → reaches graph (rooms after) taker.order.zone other.order.zone ≡ true → b ≡ true
      go true there k = refl
      go false away k =
          let still = reach_from_start graph (rooms events) taker.order.zone (buyer_zone own (standing events next.maker)) other.order.zone (route_leg next.leg) is_graph route away in
          absurd (true≢false (sym k ∙ ap (λ r. reaches graph r taker.order.zone other.order.zone) one ∙ still))

  -- so it could trade before with whom it can trade after
  could-before : IsIn taker (placed events) → (other : Standing) → can_trade graph (rooms_for after then) then other ≡ true → can_trade graph (rooms_for events own) own other ≡ true
  could-before there other h =
      let parts = and_parts (crosses taker.order.side then.price other.price) (reaches graph (rooms after) (seller_zone then other) (buyer_zone then other)) h in
      let grows = filled-more events e taker.name in
      and_from (crosses taker.order.side own.price other.price) (reaches graph (rooms events) (seller_zone own other) (buyer_zone own other))
      (before-crosses taker.order (filled events taker.name) (filled after taker.name) other.price (can.peaks taker there) (omega (arith, grows)) parts.0)
      (reached-before other taker.order.side refl parts.1)

pub pass_for_good : TakersPassForGood
pass_for_good setup events taker leg other is_setup fit there is none =
    let can = fit-can_take setup events fit in
    let next = takers-leg (graph_of setup) is_setup events can taker leg there is in
    false_from_ne_true (can_trade (graph_of setup) (rooms_for (and_then events leg) (standing (and_then events leg) taker)) (standing (and_then events leg) taker) other)
    (λ h. true≢false (sym (could-before (graph_of setup) is_setup events can taker leg next there other h) ∙ none))
