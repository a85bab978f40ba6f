-- What each event of a history carries, sells and buys: what it carries out of a zone and buys there is
-- what it carries in and sells there, and in all zones together it sells what it buys.
use Rattle.std.proofs.Common.{◌≡◌, ◌∙◌, inl, inr, ◌+◌, ◌==◌, ◌&&◌, ℕ, Bool, List, [], ◌∷◌, ◌++◌, filter, sum_by, refl, sym, ap, subst, arith}
use Rattle.std.proofs.Math.Path.{fun_ext}
use Rattle.std.specs.List.{range_with_len}
use Rattle.order_kinds.specs.declared.contract.Contract.{Contract}
use Rattle.order_kinds.specs.declared.contract.Quarter.{Quarter}
use Rattle.order_kinds.specs.declared.side.Side.{Side}
use Rattle.order_kinds.specs.declared.side.Side.TheVariants.{Buy, Sell}
use Rattle.order_kinds.specs.Period.{block_has, block_quarters, contract_has, contract_quarters}
use Rattle.zone_graph.specs.declared.route.Arc.{Arc}
use Rattle.zone_graph.specs.Graph.{Graph, HasZone, arcs_of, end_of, start_of, zone_count}
use Rattle.zone_graph.specs.Pour.{lots_if, uses}
use Rattle.zone_graph.specs.Route.{IsIn, IsRoute}
use Rattle.cut_proof.proofs.ArcSums.{sum_nothing}
use Rattle.market_model.specs.declared.event.Event.{Event}
use Rattle.market_model.specs.declared.event.Event.TheVariants as event
use Rattle.market_model.specs.declared.event.Leg.{Leg}
use Rattle.market_model.specs.declared.setup.Setup.{Setup}
use Rattle.market_model.specs.Blocks.{block_buyer_zone, block_seller_zone, standing_block}
use Rattle.market_model.specs.Capacity.{allocated_by}
use Rattle.market_model.specs.Grid.{graph_of}
use Rattle.market_model.specs.Lines.{buyer_zone, seller_zone}
use Rattle.market_model.specs.Orders.{Placed, PlacedBlock, block_placed_by, blocks_placed, placed, placed_by, standing}
use Rattle.market_model.specs.Room.{room}
use Rattle.market_model.specs.WellFormed.{BlockLegFits, FitAfter, Fits, LegFits}
use Rattle.laws_of_market.proofs.Growing.{fit-back}
use Rattle.laws_of_market.proofs.Names.{NamesOnce, names-once}
use Rattle.laws_of_market.proofs.Placed.{AllAreSound, all_are_sound, picked-stays}
use Rattle.laws_of_market.proofs.Unique.{one_block, one_order}
use Rattle.route_choice.specs.Flow.{sent_out, taken_in}
use Rattle.route_choice.proofs.Flows.{sum_same}
use Rattle.ship_schedule.specs.Schedule.{block_in, is_trade, order_in, traded_by}
use Rattle.ship_schedule.proofs.Parties.{buyer-either, buyer_by, buys, seller-either, seller_by, sells}
use Rattle.ship_schedule.proofs.RouteSums.{route-balance-if, zone-once}

-- what an event carries over an arc in a quarter, if it is a trade
abbrev pub carried_by : Quarter → Arc → Event → ℕ
carried_by quarter arc event = lots_if (is_trade event) (allocated_by quarter arc event)

-- the zones of a graph
abbrev pub all_zones : Graph → List ℕ
all_zones graph = range_with_len 0 (zone_count graph)

-- an event is even: in each zone, and in all of them together
pub record IsEven (graph : Graph) (all : List Event) (e : Event) : Type 0 where
  pub balanced : (zone : ℕ) (quarter : Quarter)
      → sent_out graph (λ arc. carried_by quarter arc e) zone + traded_by all Buy zone quarter e
      ≡ taken_in graph (λ arc. carried_by quarter arc e) zone + traded_by all Sell zone quarter e
  pub settled : (quarter : Quarter)
      → sum_by (λ zone. traded_by all Sell zone quarter e) (all_zones graph) ≡ sum_by (λ zone. traded_by all Buy zone quarter e) (all_zones graph)

-- one that is no trade
still-even : (graph : Graph) (all : List Event) (e : Event) → ((quarter : Quarter) (arc : Arc) → carried_by quarter arc e ≡ 0)
    → ((side : Side) (zone : ℕ) (quarter : Quarter) → traded_by all side zone quarter e ≡ 0) → IsEven graph all e
still-even graph all e carries trades = record {
  balanced = λ zone quarter.
      let nothing : (λ arc. carried_by quarter arc e) ≡ (λ (arc : Arc). 0) = fun_ext (carries quarter) in
      let out = ap (λ f. sent_out graph f zone) nothing in
      let into = ap (λ f. taken_in graph f zone) nothing in
      let none_out = sum_nothing (λ (arc : Arc). 0) (filter (λ arc. start_of graph arc == zone) (arcs_of graph)) (λ arc i. refl) in
      let none_in = sum_nothing (λ (arc : Arc). 0) (filter (λ arc. end_of graph arc == zone) (arcs_of graph)) (λ arc i. refl) in
      omega (arith, out, into, none_out, none_in, trades Buy zone quarter, trades Sell zone quarter);
  settled = λ quarter. sum_same (λ zone. traded_by all Sell zone quarter e) (λ zone. traded_by all Buy zone quarter e) (all_zones graph)
      (λ zone. trades Sell zone quarter ∙ sym (trades Buy zone quarter));
}

-- one that carries lots over a route, in some quarters, from the zone where it sells to the zone where
-- it buys
module _ (graph : Graph) (all : List Event) (e : Event) (in_quarter : Quarter → Bool) (room : Arc → ℕ) (from to lots : ℕ) (route : List Arc)
    (is_route : IsRoute graph room from to route) (from_known : HasZone graph from) (to_known : HasZone graph to)
    (carries : (quarter : Quarter) (arc : Arc) → carried_by quarter arc e ≡ lots_if (in_quarter quarter && uses route arc) lots)
    (sold_in : (zone : ℕ) (quarter : Quarter) → traded_by all Sell zone quarter e ≡ lots_if (in_quarter quarter && (from == zone)) lots)
    (bought_in : (zone : ℕ) (quarter : Quarter) → traded_by all Buy zone quarter e ≡ lots_if (in_quarter quarter && (to == zone)) lots) where
  trade-balanced : (zone : ℕ) (quarter : Quarter)
      → sent_out graph (λ arc. carried_by quarter arc e) zone + traded_by all Buy zone quarter e
      ≡ taken_in graph (λ arc. carried_by quarter arc e) zone + traded_by all Sell zone quarter e
  trade-balanced zone quarter =
      let over_route : (λ arc. carried_by quarter arc e) ≡ (λ arc. lots_if (in_quarter quarter && uses route arc) lots) = fun_ext (carries quarter) in
      let out = ap (λ f. sent_out graph f zone) over_route in
      let into = ap (λ f. taken_in graph f zone) over_route in
      omega (arith, out, into, route-balance-if graph room from to lots route is_route (in_quarter quarter) zone, sold_in zone quarter, bought_in zone quarter)

  trade-settled : (quarter : Quarter)
      → sum_by (λ zone. traded_by all Sell zone quarter e) (all_zones graph) ≡ sum_by (λ zone. traded_by all Buy zone quarter e) (all_zones graph)
  trade-settled quarter =
      sum_same (λ zone. traded_by all Sell zone quarter e) (λ zone. lots_if (in_quarter quarter && (from == zone)) lots) (all_zones graph) (λ zone. sold_in zone quarter)
      ∙ zone-once graph from lots (in_quarter quarter) from_known ∙ sym (zone-once graph to lots (in_quarter quarter) to_known)
      ∙ sym (sum_same (λ zone. traded_by all Buy zone quarter e) (λ zone. lots_if (in_quarter quarter && (to == zone)) lots) (all_zones graph) (λ zone. bought_in zone quarter))

  trade-even : IsEven graph all e
  trade-even = record { balanced = trade-balanced; settled = trade-settled }

-- ---- legs, and legs of blocks

seller-is : (before : List Event) (taker maker : Placed) → seller_zone (standing before taker) (standing before maker) ≡ (seller_by taker maker taker.order.side).order.zone
seller-is before taker maker = by taker.order.side refl
  where
    by : (side : Side) → taker.order.side ≡ side → seller_zone (standing before taker) (standing before maker) ≡ (seller_by taker maker taker.order.side).order.zone
    by Buy e = rw e refl
    by Sell e = rw e refl

buyer-is : (before : List Event) (taker maker : Placed) → buyer_zone (standing before taker) (standing before maker) ≡ (buyer_by taker maker taker.order.side).order.zone
buyer-is before taker maker = by taker.order.side refl
  where
    by : (side : Side) → taker.order.side ≡ side → buyer_zone (standing before taker) (standing before maker) ≡ (buyer_by taker maker taker.order.side).order.zone
    by Buy e = rw e refl
    by Sell e = rw e refl

block_seller-is : (before : List Event) (taker maker : PlacedBlock)
    → block_seller_zone (standing_block before taker) (standing_block before maker) ≡ (seller_by taker maker taker.order.side).order.zone
block_seller-is before taker maker = by taker.order.side refl
  where
    by : (side : Side) → taker.order.side ≡ side
        → block_seller_zone (standing_block before taker) (standing_block before maker) ≡ (seller_by taker maker taker.order.side).order.zone
    by Buy e = rw e refl
    by Sell e = rw e refl

block_buyer-is : (before : List Event) (taker maker : PlacedBlock)
    → block_buyer_zone (standing_block before taker) (standing_block before maker) ≡ (buyer_by taker maker taker.order.side).order.zone
block_buyer-is before taker maker = by taker.order.side refl
  where
    by : (side : Side) → taker.order.side ≡ side
        → block_buyer_zone (standing_block before taker) (standing_block before maker) ≡ (buyer_by taker maker taker.order.side).order.zone
    by Buy e = rw e refl
    by Sell e = rw e refl

route-between : (graph : Graph) (room : Arc → ℕ) (from to start end : ℕ) (route : List Arc) → from ≡ start → to ≡ end → IsRoute graph room from to route → IsRoute graph room start end route
route-between graph room from to start end route e k is = subst (λ z. IsRoute graph room z end route) e (subst (λ z. IsRoute graph room from z route) k is)

module _ (setup : Setup) (all before more : List Event) (is : all ≡ before ++ more) (once : NamesOnce all) (sound : AllAreSound setup all) where
  module _ (contract : Contract) (leg : Leg) (fits : LegFits setup before contract leg) where
    taker_in : IsIn fits.taker (placed all)
    taker_in = subst (λ es. IsIn fits.taker (placed es)) (sym is) (picked-stays placed_by fits.taker before more fits.taker_open.is_placed)

    maker_in : IsIn fits.maker (placed all)
    maker_in = subst (λ es. IsIn fits.maker (placed es)) (sym is) (picked-stays placed_by fits.maker before more fits.maker_open.is_placed)

    pub sold_in : (zone : ℕ) → order_in all Sell zone leg ≡ ((seller_by fits.taker fits.maker fits.taker.order.side).order.zone == zone)
    sold_in = sells Placed (λ order. order.name) (λ order. order.order.side) (λ order. order.order.zone) (placed all) (one_order all once) leg
        fits.taker fits.maker taker_in maker_in fits.taker_open.is_named fits.maker_open.is_named fits.opposed

    pub bought_in : (zone : ℕ) → order_in all Buy zone leg ≡ ((buyer_by fits.taker fits.maker fits.taker.order.side).order.zone == zone)
    bought_in = buys Placed (λ order. order.name) (λ order. order.order.side) (λ order. order.order.zone) (placed all) (one_order all once) leg
        fits.taker fits.maker taker_in maker_in fits.taker_open.is_named fits.maker_open.is_named fits.opposed

    leg-even : IsEven (graph_of setup) all (event.Leg contract leg)
    leg-even =
        let seller = seller_by fits.taker fits.maker fits.taker.order.side in
        let buyer = buyer_by fits.taker fits.maker fits.taker.order.side in
        let graph = graph_of setup in
        let rooms = room before (contract_quarters contract) in
        trade-even graph all (event.Leg contract leg) (contract_has contract) rooms seller.order.zone buyer.order.zone leg.lots leg.route
        (route-between graph rooms (seller_zone (standing before fits.taker) (standing before fits.maker)) (buyer_zone (standing before fits.taker) (standing before fits.maker))
        seller.order.zone buyer.order.zone leg.route (seller-is before fits.taker fits.maker) (buyer-is before fits.taker fits.maker) fits.carried.is_route)
        (seller-either (λ (order : Placed). HasZone graph order.order.zone) fits.taker fits.maker fits.taker.order.side
        (sound.orders fits.taker taker_in).in_zone (sound.orders fits.maker maker_in).in_zone)
        (buyer-either (λ (order : Placed). HasZone graph order.order.zone) fits.taker fits.maker fits.taker.order.side
        (sound.orders fits.taker taker_in).in_zone (sound.orders fits.maker maker_in).in_zone)
        (λ quarter arc. refl)
        (λ zone quarter. ap (λ b. lots_if (contract_has contract quarter && b) leg.lots) (sold_in zone))
        (λ zone quarter. ap (λ b. lots_if (contract_has contract quarter && b) leg.lots) (bought_in zone))

  module _ (first last : ℕ) (leg : Leg) (fits : BlockLegFits setup before first last leg) where
    block_taker_in : IsIn fits.taker (blocks_placed all)
    block_taker_in = subst (λ es. IsIn fits.taker (blocks_placed es)) (sym is) (picked-stays block_placed_by fits.taker before more fits.taker_open.is_placed)

    block_maker_in : IsIn fits.maker (blocks_placed all)
    block_maker_in = subst (λ es. IsIn fits.maker (blocks_placed es)) (sym is) (picked-stays block_placed_by fits.maker before more fits.maker_open.is_placed)

    pub block_sold_in : (zone : ℕ) → block_in all Sell zone leg ≡ ((seller_by fits.taker fits.maker fits.taker.order.side).order.zone == zone)
    block_sold_in = sells PlacedBlock (λ block. block.name) (λ block. block.order.side) (λ block. block.order.zone) (blocks_placed all) (one_block all once) leg
        fits.taker fits.maker block_taker_in block_maker_in fits.taker_open.is_named fits.maker_open.is_named fits.opposed

    pub block_bought_in : (zone : ℕ) → block_in all Buy zone leg ≡ ((buyer_by fits.taker fits.maker fits.taker.order.side).order.zone == zone)
    block_bought_in = buys PlacedBlock (λ block. block.name) (λ block. block.order.side) (λ block. block.order.zone) (blocks_placed all) (one_block all once) leg
        fits.taker fits.maker block_taker_in block_maker_in fits.taker_open.is_named fits.maker_open.is_named fits.opposed

    block_leg-even : IsEven (graph_of setup) all (event.BlockLeg first last leg)
    block_leg-even =
        let seller = seller_by fits.taker fits.maker fits.taker.order.side in
        let buyer = buyer_by fits.taker fits.maker fits.taker.order.side in
        let graph = graph_of setup in
        let rooms = room before (block_quarters first last) in
        trade-even graph all (event.BlockLeg first last leg) (block_has first last) rooms seller.order.zone buyer.order.zone leg.lots leg.route
        (route-between graph rooms (block_seller_zone (standing_block before fits.taker) (standing_block before fits.maker))
        (block_buyer_zone (standing_block before fits.taker) (standing_block before fits.maker))
        seller.order.zone buyer.order.zone leg.route (block_seller-is before fits.taker fits.maker) (block_buyer-is before fits.taker fits.maker) fits.carried.is_route)
        (seller-either (λ (block : PlacedBlock). HasZone graph block.order.zone) fits.taker fits.maker fits.taker.order.side
        (sound.blocks fits.taker block_taker_in).in_zone (sound.blocks fits.maker block_maker_in).in_zone)
        (buyer-either (λ (block : PlacedBlock). HasZone graph block.order.zone) fits.taker fits.maker fits.taker.order.side
        (sound.blocks fits.taker block_taker_in).in_zone (sound.blocks fits.maker block_maker_in).in_zone)
        (λ quarter arc. refl)
        (λ zone quarter. ap (λ b. lots_if (block_has first last quarter && b) leg.lots) (block_sold_in zone))
        (λ zone quarter. ap (λ b. lots_if (block_has first last quarter && b) leg.lots) (block_bought_in zone))

  event-even : (e : Event) → Fits setup before e → IsEven (graph_of setup) all e
  event-even (event.Leg contract leg) fits = leg-even contract leg fits
  event-even (event.BlockLeg first last leg) fits = block_leg-even first last leg fits
  event-even e fits = still-even (graph_of setup) all e (λ quarter arc. refl) (λ side zone quarter. refl)

-- what stands before an item of a list, and behind it
pub parted : {X : Type 0} (x : X) (xs : List X) → IsIn x xs → (before : List X) × (after : List X) × (xs ≡ before ++ (x ∷ after))
parted x [] i = absurd i
parted x (y ∷ ys) i = elim i [
  | inl s ↦ ([], ys, ap (λ z. z ∷ ys) (sym s))
  | inr j ↦ let r = parted x ys j in (y ∷ r.0, r.1, ap (λ zs. y ∷ zs) r.2)
]

-- each event of a history whose events fit is even
pub each-even : (setup : Setup) (all : List Event) → FitAfter setup [] all → (e : Event) → IsIn e all → IsEven (graph_of setup) all e
each-even setup all fit e i =
    let parts = parted e all i in
    let there = fit-back setup [] parts.0 (e ∷ parts.1) (subst (FitAfter setup []) parts.2 fit) in
    event-even setup all parts.0 (e ∷ parts.1) parts.2 (names-once setup all fit) (all_are_sound setup all fit) e there.0
