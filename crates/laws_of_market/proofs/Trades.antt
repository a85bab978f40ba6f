-- A trade that the definitions make fits the events before it.
use Rattle.std.proofs.Common.{◌≡◌, ℕ, ◌<◌, ◌≤◌, ◌&&◌, true, List, map, filter, min, Option, Some, None, refl, subst, arith}
use Rattle.std.proofs.lemmas.Bool.{ltb-true, and_parts}
use Rattle.std.specs.Option.{option_map}
use Rattle.order_kinds.specs.declared.contract.Contract.{Contract}
use Rattle.order_kinds.specs.declared.side.Side.{Side}
use Rattle.order_kinds.specs.Same.{same_contract, same_side}
use Rattle.order_kinds.specs.Side.{opposite}
use Rattle.zone_graph.specs.declared.route.Arc.{Arc}
use Rattle.zone_graph.specs.Graph.{Graph}
use Rattle.zone_graph.specs.Route.{IsIn, best_route, carried}
use Rattle.zone_graph.proofs.Membership.{from_filter, from_map}
use Rattle.zone_graph.proofs.Finding.{from_find}
use Rattle.zone_graph.proofs.Carrying.{carried-le, carried-room, carried-some, way-room, best_route-route}
use Rattle.market_model.specs.declared.event.Event.{Event}
use Rattle.market_model.specs.declared.setup.Setup.{Setup}
use Rattle.market_model.specs.Grid.{graph_of}
use Rattle.market_model.specs.Lines.{buyer_zone, can_trade, line, partner, priority_cmp, rooms_for, seller_zone, stands_in}
use Rattle.market_model.specs.Orders.{Placed, Standing, is_open, left, placed, standing}
use Rattle.market_model.specs.Taking.{leg_over, trade}
use Rattle.market_model.specs.WellFormed.{Fits, IsMarketSetup}
use Rattle.laws_of_market.proofs.Members.{from_in_order}
use Rattle.laws_of_market.proofs.Placed.{OrderIsSound}
use Rattle.laws_of_market.proofs.Soundness.{shown-some}
use Rattle.laws_of_market.proofs.Tests.{same_contract-eq, same_side-eq}

-- an open order: it entered, and something is left of it
pub record IsOpen (events : List Event) (order : Placed) : Type 0 where
  pub is_placed : IsIn order (placed events)
  pub is_left : is_open events order.name ≡ true

-- what stands in a line is an open order of its contract and side
pub record IsInLine (events : List Event) (contract : Contract) (side : Side) (found : Standing) : Type 0 where
  pub order : Placed
  pub is_open : IsOpen events order
  pub of_contract : order.order.contract ≡ contract
  pub on_side : order.order.side ≡ side
  pub is : found ≡ standing events order

pub from_line : (events : List Event) (contract : Contract) (side : Side) (found : Standing) → IsIn found (line events contract side) → IsInLine events contract side found
unfolding line
from_line events contract side found h =
    let listed = from_in_order (priority_cmp side) found (map (standing events) (filter (stands_in events contract side) (placed events))) h in
    let stands = from_map (standing events) found (filter (stands_in events contract side) (placed events)) listed in
    let passes = from_filter (stands_in events contract side) stands.0 (placed events) stands.1 in
    let both = and_parts (is_open events stands.0.name && same_contract stands.0.order.contract contract) (same_side stands.0.order.side side) passes.1 in
    let first = and_parts (is_open events stands.0.name) (same_contract stands.0.order.contract contract) both.0 in
    record {
      order = stands.0;
      is_open = record { is_placed = passes.0; is_left = first.0 };
      of_contract = same_contract-eq stands.0.order.contract contract first.1;
      on_side = same_side-eq stands.0.order.side side both.1;
      is = stands.2;
    }

-- a partner is an open order of the same contract and the other side, with which a trade can be made
pub record IsPartner (graph : Graph) (events : List Event) (own : Standing) (found : Standing) : Type 0 where
  pub in_line : IsInLine events own.order.contract (opposite own.order.side) found
  pub can_trade : can_trade graph (rooms_for events own) own found ≡ true

pub partner-is : (graph : Graph) (events : List Event) (own found : Standing) → partner graph events own ≡ Some found → IsPartner graph events own found
unfolding partner
partner-is graph events own found e =
    let r = from_find (can_trade graph (rooms_for events own) own) found (line events own.order.contract (opposite own.order.side)) e in
    record { in_line = from_line events own.order.contract (opposite own.order.side) found r.0; can_trade = r.1 }

-- the lots of a leg that is made are at least one, where both orders show some
made_lots : (setup : Setup) (room : Arc → ℕ) (from to shown other : ℕ) (route : List Arc) → IsMarketSetup setup
    → best_route (graph_of setup) room from to ≡ Some route → 1 ≤ shown → 1 ≤ other → 1 ≤ carried room (min shown other) route
made_lots setup room from to shown other route is_setup is some too =
    let found = best_route-route (graph_of setup) room from to route is_setup is in
    carried-some room (min shown other) route (λ arc i. way-room (graph_of setup) room from to route found.way arc i) (omega arith)

-- a trade of two open orders of one contract and opposite sides fits
pub trade-fits : (setup : Setup) (events : List Event) (taker maker : Placed) (e : Event) → IsMarketSetup setup
    → IsOpen events taker → IsOpen events maker → OrderIsSound setup taker → OrderIsSound setup maker
    → maker.order.contract ≡ taker.order.contract → maker.order.side ≡ opposite taker.order.side
    → trade (graph_of setup) events (standing events taker) (standing events maker) ≡ Some e → Fits setup events e
unfolding trade
trade-fits setup events taker maker e is_setup taker_open maker_open taker_sound maker_sound contract opposed is =
    go (best_route (graph_of setup) rooms (seller_zone own other) (buyer_zone own other)) refl is
  where
    own : Standing
    own = standing events taker

    other : Standing
    other = standing events maker

    rooms : Arc → ℕ
    rooms = rooms_for events own

    made : (route : List Arc) → best_route (graph_of setup) rooms (seller_zone own other) (buyer_zone own other) ≡ Some route
        → Fits setup events (leg_over rooms own other route)
    made route found =
        let taker_left : 0 < left events taker.name = ltb-true 0 (left events taker.name) taker_open.is_left in
        let maker_left : 0 < left events maker.name = ltb-true 0 (left events maker.name) maker_open.is_left in
        let taker_shows = shown-some taker.order taker_sound.sound own.filled own.left taker_left in
        let maker_shows = shown-some maker.order maker_sound.sound other.filled other.left maker_left in
        let most = carried-le rooms (min own.shown other.shown) route in
        record {
          taker = taker;
          maker = maker;
          taker_open = record { is_placed = taker_open.is_placed; is_named = refl; is_left = taker_open.is_left };
          maker_open = record { is_placed = maker_open.is_placed; is_named = refl; is_left = maker_open.is_left };
          taker_contract = refl;
          maker_contract = contract;
          opposed = opposed;
          price = refl;
          some = made_lots setup rooms (seller_zone own other) (buyer_zone own other) own.shown other.shown route is_setup found taker_shows maker_shows;
          taker_shows = omega arith;
          maker_shows = omega arith;
          carried = record {
            is_route = best_route-route (graph_of setup) rooms (seller_zone own other) (buyer_zone own other) route is_setup found;
            has_room = λ arc i. carried-room rooms (min own.shown other.shown) route arc i;
          };
        }

    go : (o : Option (List Arc)) → best_route (graph_of setup) rooms (seller_zone own other) (buyer_zone own other) ≡ o
        → option_map (leg_over rooms own other) o ≡ Some e → Fits setup events e
    go None found made_it = absurd (cc)
    go (Some route) found made_it =
        let same : leg_over rooms own other route ≡ e = cc in subst (Fits setup events) same (made route found)
