-- A leg of the pour between two open blocks: what it does to the history.
use Rattle.std.proofs.Common.{◌≡◌, ℕ, ◌+◌, ◌-◌, ◌≤◌, true, List, nat_le, nat_lt, ltb-true, Some, refl, ap, arith}
use Rattle.std.proofs.Math.Path.{fun_ext}
use Rattle.std.proofs.lemmas.Bool.{and_parts}
use Rattle.std.specs.Option.{option_map}
use Rattle.order_kinds.specs.Period.{block_quarters}
use Rattle.zone_graph.specs.declared.route.Arc.{Arc}
use Rattle.zone_graph.specs.declared.route.RouteLeg.{RouteLeg}
use Rattle.zone_graph.specs.Graph.{Graph}
use Rattle.zone_graph.specs.Pour.{pour_leg, room_after}
use Rattle.zone_graph.specs.Route.{IsIn}
use Rattle.market_model.specs.declared.event.Event.{Event}
use Rattle.market_model.specs.declared.event.Leg.{Leg}
use Rattle.market_model.specs.declared.setup.Setup.{Setup}
use Rattle.market_model.specs.Blocks.{StandingBlock, block_buyer_zone, block_leg, block_leg_over, block_seller_zone, standing_block}
use Rattle.market_model.specs.Grid.{graph_of}
use Rattle.market_model.specs.History.{and_then}
use Rattle.market_model.specs.Orders.{PlacedBlock, blocks_placed, is_open, left}
use Rattle.market_model.specs.Room.{room}
use Rattle.market_model.specs.WellFormed.{IsHistory, IsMarketSetup}
use Rattle.laws_of_market.proofs.Balances.{left-block_leg, names-taker}
use Rattle.laws_of_market.proofs.BlockDeals.{pour-start}
use Rattle.laws_of_market.proofs.Placed.{all_are_sound}
use Rattle.laws_of_market.proofs.Pours.{ArePair, PourKeeps, made_leg, pour-leg_fits, pour-step, pour_leg-is}
use Rattle.laws_of_market.proofs.Rooms.{room-block_leg}
use Rattle.laws_of_market.proofs.Uses.{within_offers}

module _ (setup : Setup) (is_setup : IsMarketSetup setup) (start : List Event) (history : IsHistory setup start) (taker maker : PlacedBlock)
    (is_pair : ArePair taker maker) (taker_in : IsIn taker (blocks_placed start)) (taker_open : is_open start taker.name ≡ true)
    (maker_in : IsIn maker (blocks_placed start)) (maker_open : is_open start maker.name ≡ true) where
  abbrev graph : Graph
  graph = graph_of setup

  abbrev own : StandingBlock
  own = standing_block start taker

  abbrev other : StandingBlock
  other = standing_block start maker

  abbrev from : ℕ
  from = block_seller_zone own other

  abbrev to : ℕ
  to = block_buyer_zone own other

  abbrev rooms : List Event → Arc → ℕ
  rooms V = room V (block_quarters taker.order.first taker.order.last)

  abbrev over : RouteLeg → Event
  over = block_leg_over own other

  -- the period is not empty
  in_order : taker.order.first ≤ taker.order.last
  in_order =
      let sound = (all_are_sound setup start history.fit).blocks taker taker_in in
      let both = and_parts (nat_lt taker.order.first taker.order.last) (nat_le (taker.order.last + 1 - taker.order.first) 24) sound.of_period in
      let less = ltb-true taker.order.first taker.order.last both.0 in
      omega (arith, less)

  -- the pour keeps at its start what it keeps
  pub kept : PourKeeps setup start taker maker start
  kept = pour-start setup is_setup start history taker maker is_pair (record { is_placed = taker_in; is_left = taker_open }) (record { is_placed = maker_in; is_left = maker_open })

  -- what a leg of the pour does to the history
  pub record IsStep (V : List Event) (leg : RouteLeg) : Type 0 where
    pub is_leg : block_leg graph own other V ≡ Some (over leg)
    pub keeps : PourKeeps setup start taker maker (and_then V (over leg))
    pub lowered : rooms (and_then V (over leg)) ≡ room_after (rooms V) leg
    pub less : left (and_then V (over leg)) taker.name ≡ left V taker.name - leg.lots
    pub has : leg.lots ≤ left V taker.name

  pub step : (V : List Event) (leg : RouteLeg) → PourKeeps setup start taker maker V → pour_leg graph (rooms V) from to (left V taker.name) ≡ Some leg → IsStep V leg
  unfolding block_leg
  step V leg keeps found =
      let is_leg = pour_leg-is graph (rooms V) from to (left V taker.name) leg found in
      let fits = pour-leg_fits setup is_setup start taker maker own other is_pair taker_in maker_in refl refl refl refl V keeps leg is_leg in
      let here : block_leg graph own other V ≡ Some (over leg) = ap (option_map over) found in
      let next = pour-step setup is_setup start taker maker own other is_pair taker_in maker_in refl refl refl refl V (over leg) keeps here in
      let traded : Leg = made_leg setup is_setup start taker maker own other is_pair taker_in maker_in refl refl refl refl leg in
      record {
        is_leg = here;
        keeps = next.kept;
        lowered = fun_ext (room-block_leg V taker.order.first taker.order.last traded in_order (within_offers setup V keeps.fit) fits.some fits.carried.has_room);
        less = left-block_leg V taker.order.first taker.order.last traded taker.name (names-taker traded);
        has = fits.taker_has;
      }
