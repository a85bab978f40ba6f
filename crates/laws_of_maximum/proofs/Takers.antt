-- The legs of a taker: what the next one is, and what it leaves of the history in which the taker goes
-- on. The history need not be a legal one: that of a view is none.
use Rattle.std.proofs.Common.{◌≡◌, ℕ, ◌<◌, ◌≤◌, true, List, min, Option, Some, None, refl, sym, subst, arith}
use Rattle.std.proofs.lemmas.Bool.{and_parts, ltb-true}
use Rattle.std.proofs.lemmas.Nat.{mod_below}
use Rattle.std.specs.Option.{option_map}
use Rattle.order_kinds.specs.declared.order.Kind.{Kind}
use Rattle.order_kinds.specs.declared.order.Kind.TheVariants as kind
use Rattle.order_kinds.specs.Period.{contract_quarters}
use Rattle.order_kinds.specs.Side.{crosses, opposite}
use Rattle.zone_graph.specs.declared.route.Arc.{Arc}
use Rattle.zone_graph.specs.Graph.{Graph, IsGraph}
use Rattle.zone_graph.specs.Pour.{room_after}
use Rattle.zone_graph.specs.Reach.{reaches}
use Rattle.zone_graph.specs.Route.{IsIn, best_route, carried}
use Rattle.zone_graph.proofs.Carrying.{best_route-route, carried-le, carried-room, carried-some, way-room}
use Rattle.cut_proof.specs.Cut.{HasRoomFor}
use Rattle.market_model.specs.declared.event.Event.{Event}
use Rattle.market_model.specs.declared.event.Event.TheVariants as event
use Rattle.market_model.specs.declared.event.Leg.{Leg}
use Rattle.market_model.specs.History.{and_then}
use Rattle.market_model.specs.Lines.{buyer_zone, can_trade, partner, rooms_for, seller_zone}
use Rattle.market_model.specs.Orders.{Placed, Standing, left, open_order, placed, placed_by, shown_lots, standing}
use Rattle.market_model.specs.Room.{room}
use Rattle.market_model.specs.Taking.{leg_over, next_leg, standing_order, trade}
use Rattle.laws_of_market.proofs.Legs.{open_order-is}
use Rattle.laws_of_market.proofs.Names.{NamesOnce, names-kept}
use Rattle.laws_of_market.proofs.Placed.{picked-same}
use Rattle.laws_of_market.proofs.Repeats.{bind-some, map-some}
use Rattle.laws_of_market.proofs.Rooms.{room-leg, within-leg}
use Rattle.laws_of_market.proofs.Trades.{IsOpen, partner-is}
use Rattle.laws_of_market.proofs.Unique.{one_order}
use Rattle.laws_of_market.proofs.Uses.{IsWithinOffers}
use Rattle.laws_of_maximum.specs.Rooms.{route_leg}
use Rattle.laws_of_maximum.proofs.CrossingPeaks.{HasPeaks}

-- a history in which takings go on: no more is used than is offered, names are given once, and each
-- peak has a lot at least
pub record CanTake (V : List Event) : Type 0 where
  pub within : IsWithinOffers V
  pub names : NamesOnce V
  pub peaks : (p : Placed) → IsIn p (placed V) → HasPeaks p.order.kind

-- an open order shows something
shows-some : (k : Kind) (filled left : ℕ) → HasPeaks k → 1 ≤ left → 1 ≤ shown_lots k filled left
shows-some kind.Limit filled left has some = some
shows-some kind.Ioc filled left has some = some
shows-some kind.Fok filled left has some = some
shows-some (kind.Iceberg peak delta) filled left has some = let below = mod_below filled peak.0 has in omega (arith, below, some)

-- an event is a leg of a taker with an open order of the opposite line, at a price that crosses, of a
-- lot at least and of no more than both show, over a route that has room for it
pub record IsTakersLeg (graph : Graph) (V : List Event) (taker : Placed) (e : Event) : Type 0 where
  pub leg : Leg
  pub is : event.Leg taker.order.contract leg ≡ e
  pub taker_is : leg.taker ≡ taker.name
  pub maker : Placed
  pub maker_is : leg.maker ≡ maker.name
  pub maker_open : IsOpen V maker
  pub same : maker.order.contract ≡ taker.order.contract
  pub opposed : maker.order.side ≡ opposite taker.order.side
  pub crossing : crosses taker.order.side (standing V taker).price (standing V maker).price ≡ true
  pub some : 1 ≤ leg.lots
  pub taker_shows : leg.lots ≤ (standing V taker).shown
  pub maker_shows : leg.lots ≤ (standing V maker).shown
  pub fits : HasRoomFor graph (room V (contract_quarters taker.order.contract))
      (seller_zone (standing V taker) (standing V maker)) (buyer_zone (standing V taker) (standing V maker)) (route_leg leg)

module _ (graph : Graph) (is_graph : IsGraph graph) (V : List Event) (can : CanTake V) where
  -- a trade of a taker with an order of the opposite line
  module _ (taker maker : Placed) (taker_open : IsOpen V taker) (maker_open : IsOpen V maker) (same : maker.order.contract ≡ taker.order.contract)
      (opposed : maker.order.side ≡ opposite taker.order.side)
      (can_trade_is : can_trade graph (rooms_for V (standing V taker)) (standing V taker) (standing V maker) ≡ true) where
    abbrev own : Standing
    own = standing V taker

    abbrev its : Standing
    its = standing V maker

    abbrev rooms : Arc → ℕ
    rooms = room V (contract_quarters taker.order.contract)

    leg-over : (route : List Arc) → best_route graph rooms (seller_zone own its) (buyer_zone own its) ≡ Some route → IsTakersLeg graph V taker (leg_over rooms own its route)
    leg-over route found =
        let best = best_route-route graph rooms (seller_zone own its) (buyer_zone own its) route is_graph found in
        let taker_left : 0 < left V taker.name = ltb-true 0 (left V taker.name) taker_open.is_left in
        let maker_left : 0 < left V maker.name = ltb-true 0 (left V maker.name) maker_open.is_left in
        let taker_some = shows-some taker.order.kind own.filled own.left (can.peaks taker taker_open.is_placed) taker_left in
        let maker_some = shows-some maker.order.kind its.filled its.left (can.peaks maker maker_open.is_placed) maker_left in
        let most = carried-le rooms (min own.shown its.shown) route in
        record {
          leg = record { taker = taker.name; maker = maker.name; lots = carried rooms (min own.shown its.shown) route; price = its.price; route = route };
          is = refl;
          taker_is = refl;
          maker = maker;
          maker_is = refl;
          maker_open = maker_open;
          same = same;
          opposed = opposed;
          crossing = (and_parts (crosses taker.order.side own.price its.price) (reaches graph rooms (seller_zone own its) (buyer_zone own its)) can_trade_is).0;
          some = carried-some rooms (min own.shown its.shown) route (way-room graph rooms (seller_zone own its) (buyer_zone own its) route best.way) (omega (arith, taker_some, maker_some));
          taker_shows = omega (arith, most);
          maker_shows = omega (arith, most);
          fits = record { is_route = best; has_room = λ arc i. carried-room rooms (min own.shown its.shown) route arc i };
        }

    leg-of_trade : (e : Event) → trade graph V own its ≡ Some e → IsTakersLeg graph V taker e
    unfolding trade
    leg-of_trade e is = go (best_route graph rooms (seller_zone own its) (buyer_zone own its)) refl is
      where
        go : (o : Option (List Arc)) → best_route graph rooms (seller_zone own its) (buyer_zone own its) ≡ o
            → option_map (leg_over rooms own its) o ≡ Some e → IsTakersLeg graph V taker e
        go None found made = absurd (cc)
        go (Some route) found made = let same_leg : leg_over rooms own its route ≡ e = cc in subst (IsTakersLeg graph V taker) same_leg (leg-over route found)

  -- the next leg of a taker
  pub takers-leg : (taker : Placed) (e : Event) → IsIn taker (placed V) → next_leg graph taker.name V ≡ Some e → IsTakersLeg graph V taker e
  unfolding next_leg
  takers-leg taker e there is =
      let own = bind-some _ (standing_order V taker.name) e is in
      let found = map-some (standing V) (open_order V taker.name) own.0 own.1 in
      let order = open_order-is V taker.name found.0 found.1 in
      let same : found.0 ≡ taker = one_order V can.names found.0 taker order.is_open.is_placed there order.is_named in
      let other = bind-some _ (partner graph V own.0) e own.2 in
      let at_own : partner graph V (standing V found.0) ≡ Some other.0 = subst (λ s. partner graph V s ≡ Some other.0) (sym found.2) other.1 in
      let is_partner = partner-is graph V (standing V found.0) other.0 at_own in
      let line = is_partner.in_line in
      let traded : trade graph V (standing V found.0) other.0 ≡ Some e = subst (λ s. trade graph V s other.0 ≡ Some e) (sym found.2) other.2 in
      subst (λ t. IsTakersLeg graph V t e) same
      (leg-of_trade found.0 line.order order.is_open line.is_open line.of_contract line.on_side
      (subst (λ s. can_trade graph (rooms_for V (standing V found.0)) (standing V found.0) s ≡ true) line.is is_partner.can_trade) e
      (subst (λ s. trade graph V (standing V found.0) s ≡ Some e) line.is traded))

  -- ---- the history after it

  module _ (taker : Placed) (e : Event) (next : IsTakersLeg graph V taker e) where
    has : (arc : Arc) → IsIn arc next.leg.route → next.leg.lots ≤ room V (contract_quarters taker.order.contract) arc
    has arc i = next.fits.has_room arc i

    -- the rooms after it are those that it leaves
    pub rooms-after : (arc : Arc) → room (and_then V e) (contract_quarters taker.order.contract) arc
        ≡ room_after (room V (contract_quarters taker.order.contract)) (route_leg next.leg) arc
    rooms-after arc =
        subst (λ x. room (and_then V x) (contract_quarters taker.order.contract) arc ≡ room_after (room V (contract_quarters taker.order.contract)) (route_leg next.leg) arc) next.is
        (room-leg V taker.order.contract next.leg can.within next.some has arc)

    pub placed-after : placed (and_then V e) ≡ placed V
    placed-after = subst (λ x. placed (and_then V x) ≡ placed V) next.is (picked-same placed_by V (event.Leg taker.order.contract next.leg) refl)

    pub can-after : CanTake (and_then V e)
    can-after = subst (λ x. CanTake (and_then V x)) next.is (record {
      within = within-leg V taker.order.contract next.leg can.within next.some has;
      names = names-kept V (event.Leg taker.order.contract next.leg) can.names (λ n. refl) (λ h. refl);
      peaks = λ p i. can.peaks p (subst (IsIn p) (picked-same placed_by V (event.Leg taker.order.contract next.leg) refl) i);
    })
