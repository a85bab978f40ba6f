-- The legs of the pour between two blocks fit, keep what is left of both equal, and touch no other
-- order or block.
use Rattle.std.proofs.Common.{◌≡◌, ◌≢◌, ◌∙◌, ℕ, zero, suc, ◌-◌, ◌<◌, ◌≤◌, List, [], ◌++◌, Some, refl, sym, ap, subst, arith}
use Rattle.std.proofs.lemmas.Bool.{lt-ltb}
use Rattle.order_kinds.specs.declared.order.BlockOrder.{BlockOrder}
use Rattle.order_kinds.specs.declared.order.OrderName.{OrderName}
use Rattle.order_kinds.specs.Period.{block_quarters}
use Rattle.order_kinds.specs.Side.{opposite}
use Rattle.zone_graph.specs.declared.route.Arc.{Arc}
use Rattle.zone_graph.specs.declared.route.RouteLeg.{RouteLeg}
use Rattle.zone_graph.specs.Graph.{Graph}
use Rattle.zone_graph.specs.Pour.{lots_if, pour_leg}
use Rattle.zone_graph.specs.Route.{IsIn, IsRoute, best_route, carried}
use Rattle.zone_graph.proofs.Carrying.{carried-le, carried-room, carried-some, way-room, best_route-route}
use Rattle.market_model.specs.declared.event.Event.{Event}
use Rattle.market_model.specs.declared.event.Event.TheVariants as event
use Rattle.market_model.specs.declared.event.Leg.{Leg}
use Rattle.market_model.specs.declared.setup.Setup.{Setup}
use Rattle.market_model.specs.Blocks.{IsBlockPour, StandingBlock, block_buyer_zone, block_leg, block_leg_over, block_legs, block_seller_zone, standing_block}
use Rattle.market_model.specs.Grid.{graph_of}
use Rattle.market_model.specs.History.{and_then}
use Rattle.market_model.specs.Orders.{PlacedBlock, block_placed_by, blocks_placed, left}
use Rattle.market_model.specs.Room.{room}
use Rattle.market_model.specs.WellFormed.{BlockLegFits, Fits, FitAfter, IsMarketSetup}
use Rattle.laws_of_market.proofs.Balances.{left-block_leg, names-maker, names-taker}
use Rattle.laws_of_market.proofs.Placed.{picked-same}
use Rattle.laws_of_market.proofs.Repeats.{fit-more, history-keep, map-some, run-kept}
use Rattle.laws_of_market.proofs.Wholes.{left-untouched, names-other}

-- the next leg of a pour: something is left, the route is the best one, and it carries what it can
pub record IsPourLeg (graph : Graph) (room : Arc → ℕ) (from to left : ℕ) (leg : RouteLeg) : Type 0 where
  pub some_left : 1 ≤ left
  pub is_best : best_route graph room from to ≡ Some leg.route
  pub carries : leg.lots ≡ carried room left leg.route

pub pour_leg-is : (graph : Graph) (room : Arc → ℕ) (from to left : ℕ) (leg : RouteLeg) → pour_leg graph room from to left ≡ Some leg → IsPourLeg graph room from to left leg
pour_leg-is graph room from to zero leg e = absurd (cc)
pour_leg-is graph room from to (suc more) leg e =
    let found = map-some (λ (route : List Arc). record { route = route; lots = carried room (suc more) route }) (best_route graph room from to) leg e in
    subst (IsPourLeg graph room from to (suc more)) found.2 (record { some_left = omega arith; is_best = found.1; carries = refl })

-- two blocks that are poured: of one period and quantity and opposite sides
pub record ArePair (taker maker : PlacedBlock) : Type 0 where
  pub one_first : maker.order.first ≡ taker.order.first
  pub one_last : maker.order.last ≡ taker.order.last
  pub one_quantity : maker.order.quantity ≡ taker.order.quantity
  pub opposed : maker.order.side ≡ opposite taker.order.side

-- what the legs of a pour keep: the events fit, both blocks are there, as much is left of the one as
-- of the other, and of any other order or block as before
pub record PourKeeps (setup : Setup) (start : List Event) (taker maker : PlacedBlock) (events : List Event) : Type 0 where
  pub fit : FitAfter setup [] events
  pub blocks : blocks_placed events ≡ blocks_placed start
  pub equal : left events maker.name ≡ left events taker.name
  pub others : (name : OrderName) → taker.name ≢ name → maker.name ≢ name → left events name ≡ left start name

module _ (setup : Setup) (is_setup : IsMarketSetup setup) (start : List Event) (taker maker : PlacedBlock) (own other : StandingBlock)
    (is_pair : ArePair taker maker) (taker_in : IsIn taker (blocks_placed start)) (maker_in : IsIn maker (blocks_placed start))
    (own_named : own.name ≡ taker.name) (own_order : own.order ≡ taker.order)
    (other_named : other.name ≡ maker.name) (other_order : other.order ≡ maker.order) where
  -- the leg of the pour, in terms of the blocks as they stand
  pub record IsBlockLeg (events : List Event) (e : Event) : Type 0 where
    pub leg : RouteLeg
    pub is_leg : IsPourLeg (graph_of setup) (room events (block_quarters own.order.first own.order.last))
        (block_seller_zone own other) (block_buyer_zone own other) (left events own.name) leg
    pub is : block_leg_over own other leg ≡ e

  pub block_leg-is : (events : List Event) (e : Event) → block_leg (graph_of setup) own other events ≡ Some e → IsBlockLeg events e
  unfolding block_leg
  block_leg-is events e is =
      let found = map-some (block_leg_over own other) (pour_leg (graph_of setup) (room events (block_quarters own.order.first own.order.last))
      (block_seller_zone own other) (block_buyer_zone own other) (left events own.name)) e is in
      record {
        leg = found.0;
        is_leg = pour_leg-is (graph_of setup) (room events (block_quarters own.order.first own.order.last))
            (block_seller_zone own other) (block_buyer_zone own other) (left events own.name) found.0 found.1;
        is = found.2;
      }

  -- the leg of the two blocks that a route carries
  abbrev pub made_leg : RouteLeg → Leg
  made_leg leg = record { taker = own.name; maker = other.name; lots = leg.lots; price = other.order.price; route = leg.route }

  same_seller : (events : List Event) → block_seller_zone own other ≡ block_seller_zone (standing_block events taker) (standing_block events maker)
  same_seller events = λ i. block_seller_zone (record own { order = own_order i }) (record other { order = other_order i })

  same_buyer : (events : List Event) → block_buyer_zone own other ≡ block_buyer_zone (standing_block events taker) (standing_block events maker)
  same_buyer events = λ i. block_buyer_zone (record own { order = own_order i }) (record other { order = other_order i })

  -- the leg of the pour fits
  pub pour-leg_fits : (events : List Event) → PourKeeps setup start taker maker events → (leg : RouteLeg)
      → IsPourLeg (graph_of setup) (room events (block_quarters own.order.first own.order.last)) (block_seller_zone own other) (block_buyer_zone own other) (left events own.name) leg
      → BlockLegFits setup events own.order.first own.order.last (made_leg leg)
  pour-leg_fits events kept leg is_leg =
      let rooms : Arc → ℕ = room events (block_quarters own.order.first own.order.last) in
      let found = best_route-route (graph_of setup) rooms (block_seller_zone own other) (block_buyer_zone own other) leg.route is_setup is_leg.is_best in
      let most : leg.lots ≤ left events own.name = rw is_leg.carries (carried-le rooms (left events own.name) leg.route) in
      let equal : left events other.name ≡ left events own.name = ap (left events) other_named ∙ kept.equal ∙ ap (left events) (sym own_named) in
      record {
        taker = taker;
        maker = maker;
        taker_open = record {
          is_placed = subst (IsIn taker) (sym kept.blocks) taker_in;
          is_named = sym own_named;
          is_left = lt-ltb 0 (left events own.name) is_leg.some_left;
        };
        maker_open = record {
          is_placed = subst (IsIn maker) (sym kept.blocks) maker_in;
          is_named = sym other_named;
          is_left = lt-ltb 0 (left events other.name) (let some = is_leg.some_left in omega arith);
        };
        taker_first = ap (λ (o : BlockOrder). o.first) (sym own_order);
        taker_last = ap (λ (o : BlockOrder). o.last) (sym own_order);
        maker_first = is_pair.one_first ∙ ap (λ (o : BlockOrder). o.first) (sym own_order);
        maker_last = is_pair.one_last ∙ ap (λ (o : BlockOrder). o.last) (sym own_order);
        opposed = is_pair.opposed;
        one_quantity = is_pair.one_quantity;
        price = ap (λ (o : BlockOrder). o.price) other_order;
        some = rw is_leg.carries (carried-some rooms (left events own.name) leg.route
            (λ arc i. way-room (graph_of setup) rooms (block_seller_zone own other) (block_buyer_zone own other) leg.route found.way arc i) is_leg.some_left);
        taker_has = most;
        maker_has = omega arith;
        carried = record {
          is_route = subst (λ z. IsRoute (graph_of setup) rooms z (block_buyer_zone (standing_block events taker) (standing_block events maker)) leg.route) (same_seller events)
              (subst (λ z. IsRoute (graph_of setup) rooms (block_seller_zone own other) z leg.route) (same_buyer events) found);
          has_room = λ arc i. rw is_leg.carries (carried-room rooms (left events own.name) leg.route arc i);
        };
      }

  -- and keeps what a pour keeps, and lowers what is left of the taker
  pub record IsPourStep (events : List Event) (e : Event) : Type 0 where
    pub fits : Fits setup events e
    pub kept : PourKeeps setup start taker maker (and_then events e)
    pub lowers : left (and_then events e) own.name < left events own.name

  pub pour-step : (events : List Event) (e : Event) → PourKeeps setup start taker maker events → block_leg (graph_of setup) own other events ≡ Some e → IsPourStep events e
  pour-step events e kept is =
      let made = block_leg-is events e is in
      let leg : Leg = made_leg made.leg in
      let happened : Event = event.BlockLeg own.order.first own.order.last leg in
      let fits = pour-leg_fits events kept made.leg made.is_leg in
      let after : List Event = and_then events happened in
      let of_taker : left after own.name ≡ left events own.name - made.leg.lots = left-block_leg events own.order.first own.order.last leg own.name (names-taker leg) in
      let of_maker : left after other.name ≡ left events other.name - made.leg.lots = left-block_leg events own.order.first own.order.last leg other.name (names-maker leg) in
      let equal : left after maker.name ≡ left after taker.name =
      ap (left after) (sym other_named) ∙ of_maker ∙ ap (λ n. n - made.leg.lots) (ap (left events) other_named ∙ kept.equal ∙ ap (left events) (sym own_named)) ∙ sym of_taker ∙ ap (left after) own_named in
      let others : (name : OrderName) → taker.name ≢ name → maker.name ≢ name → left after name ≡ left start name =
      λ name not_taker not_maker. left-untouched events happened name refl
      (ap (λ b. lots_if b made.leg.lots) (names-other leg name (λ same. not_taker (sym own_named ∙ same)) (λ same. not_maker (sym other_named ∙ same)))) refl
      ∙ kept.others name not_taker not_maker in
      subst (IsPourStep events) made.is (record {
        fits = fits;
        kept = record {
          fit = fit-more setup events happened kept.fit fits;
          blocks = picked-same block_placed_by events happened refl ∙ kept.blocks;
          equal = equal;
          others = others;
        };
        lowers = (let some = fits.some in let has = fits.taker_has in omega arith);
      })

  -- the legs of the pour keep what a pour keeps
  pub pour-keeps : (events : List Event) → PourKeeps setup start taker maker events → PourKeeps setup start taker maker (events ++ block_legs (graph_of setup) own other events)
  unfolding block_legs
  pour-keeps events kept =
      history-keep (left events own.name) (block_leg (graph_of setup) own other) (PourKeeps setup start taker maker)
      (λ before e k is. (pour-step before e k is).kept) events kept

  -- and are a run: each is the next one, and after the last there is none
  pub pour-run : (events : List Event) → PourKeeps setup start taker maker events → IsBlockPour (graph_of setup) own other events (block_legs (graph_of setup) own other events)
  unfolding block_legs
  pour-run events kept =
      run-kept (left events own.name) (block_leg (graph_of setup) own other) and_then (λ state. left state own.name) (PourKeeps setup start taker maker)
      (λ state e k is. let step = pour-step state e k is in (step.kept, step.lowers)) events kept (omega arith)
