-- Where a taking stands that walks the opposite line once. No public clause cites this module.
use Rattle.std.specs.Prelude.{◌≡◌, ℕ, ◌<◌, Bool, true, false, List, [], ◌∷◌, ◌++◌, length, min, Option, Some, None}
use Rattle.order_kinds.specs.declared.order.OrderName.{OrderName}
use Rattle.order_kinds.specs.declared.side.Side.{Side}
use Rattle.order_kinds.specs.declared.side.Side.TheVariants.{Buy, Sell}
use Rattle.order_kinds.specs.Contract.{contract_at}
use Rattle.order_kinds.specs.Period.{contract_quarters}
use Rattle.order_kinds.specs.Side.{opposite}
use Rattle.zone_graph.specs.declared.route.Arc.{Arc}
use Rattle.zone_graph.specs.Graph.{Graph, HasArc, HasZone, IsGraph, border_count}
use Rattle.zone_graph.specs.Pour.{room_after}
use Rattle.zone_graph.specs.Rooms.{room_of}
use Rattle.zone_graph.specs.Route.{IsIn, carried}
use Rattle.cut_proof.specs.Carrying.{CanCarry, FitTogether}
use Rattle.route_choice.specs.Freshness.{IsFresh, searched_route}
use Rattle.route_choice.specs.Tree.{Tree}
use Rattle.market_model.specs.declared.board.Shown.{Shown}
use Rattle.market_model.specs.declared.event.Event.TheVariants as event
use Rattle.market_model.specs.declared.event.Leg.{Leg}
use Rattle.market_model.specs.Board.{BoardState, IsBoard, after_leg, first_shown, resting_line}
use Rattle.market_model.specs.Board.{shown_of as shown_order}
use Rattle.market_model.specs.Lines.{can_trade, rooms_for}
use Rattle.market_model.specs.Orders.{Placed, Standing, placed, standing}
use Rattle.market_model.specs.Room.{room}
use Rattle.market_model.specs.Taking.{next_leg}
use Rattle.match_core.specs.declared.walk.Partner.{Partner}
use Rattle.match_core.specs.declared.walk.Walk.{Walk}
use Rattle.match_core.specs.Takers.{CanFill, after_fill, shown_of, taker_of}

-- an order is in hand on a board, and is of a part
pub record TakesOn (board : BoardState) (part : ℕ) (order : Placed) : Type 0 where
  pub is_board : IsBoard board
  pub in_part : part < board.parts
  pub there : IsIn order (placed board.events)
  pub of_part : order.order.contract ≡ contract_at board.hour part
  pub in_hand : board.hand ≡ Some order.name.number

-- rooms are those of a part of a board's hour
pub record AreRoomsOf (board : BoardState) (part : ℕ) (rooms : List (ℕ × ℕ)) : Type 0 where
  pub size : length rooms ≡ border_count board.grid
  pub same : (arc : Arc) → HasArc board.grid arc → room_of rooms arc ≡ room board.events (contract_quarters (contract_at board.hour part)) arc
  pub fit : FitTogether board.grid (room_of rooms)

-- a search leads towards the zone of an order that buys, and from that of one that sells
abbrev pub is_towards : Side → Bool
is_towards Buy = true
is_towards Sell = false

-- a search has the routes of an order
pub record SearchesFor (graph : Graph) (order : Placed) (rooms : List (ℕ × ℕ)) (search : Tree) : Type 0 where
  pub fresh : IsFresh graph (room_of rooms) search
  pub zone : search.zone ≡ order.order.zone
  pub towards : search.towards ≡ is_towards order.order.side

-- some orders end with that of a number; there are none where there is no number
abbrev pub EndAt : Option ℕ → List Standing → Type 0
EndAt None orders = orders ≡ []
EndAt (Some number) orders = (front : List Standing) × (last : Standing) × (orders ≡ front ++ (last ∷ [])) × (last.name.number ≡ number)

-- an order can trade with another one, as both stand on a board
abbrev pub trades : BoardState → Placed → Standing → Bool
trades board order other = can_trade board.grid (rooms_for board.events (standing board.events order)) (standing board.events order) other

-- where a walk stands in the line opposite to an order: behind those that it passed over, with none of
-- whom the order can trade
pub record StandsIn (board : BoardState) (part : ℕ) (order : Placed) (passed : Option ℕ) : Type 0 where
  pub front : List Standing
  pub back : List Standing
  pub line : resting_line board part (opposite order.order.side) ≡ front ++ back
  pub ends : EndAt passed front
  pub none : (other : Standing) → IsIn other front → trades board order other ≡ false

-- what a walk keeps
pub record Stands (board : BoardState) (walk : Walk) : Type 0 where
  pub order : Placed
  pub takes : TakesOn board walk.part order
  pub is : walk.taker ≡ taker_of board.events order
  pub place : walk.place ≡ length board.events
  pub rooms : AreRoomsOf board walk.part walk.rooms
  pub search : SearchesFor board.grid order walk.rooms walk.search
  pub line : StandsIn board walk.part order walk.passed

-- and the next order that it comes to
pub record StandsAt (board : BoardState) (walk : Walk) (next : Option Shown) : Type 0 where
  pub stands : Stands board walk
  pub first : next ≡ first_shown stands.line.back

-- the order that a walk has come to is the partner, over a route
pub record IsPartnerOf (board : BoardState) (walk : Walk) (partner : Partner) : Type 0 where
  pub stands : Stands board walk
  pub maker : Standing
  pub behind : List Standing
  pub back : stands.line.back ≡ maker ∷ behind
  pub shows : partner.order ≡ shown_order maker
  pub trade : trades board stands.order maker ≡ true
  pub route : searched_route board.grid (room_of walk.rooms) walk.search maker.order.zone ≡ Some partner.route
  pub some : 0 < walk.taker.left

-- the next leg of an order was made
pub record IsNextMade (before after : BoardState) (part : ℕ) (name : OrderName) : Type 0 where
  pub leg : Leg
  pub next : next_leg before.grid name before.events ≡ Some (event.Leg (contract_at before.hour part) leg)
  pub is : after ≡ after_leg before part leg

-- the leg with a partner
abbrev pub leg_of : Walk → Partner → Leg
leg_of walk partner = record {
  taker = walk.taker.name;
  maker = record { hour = walk.taker.name.hour; number = partner.order.number };
  lots = carried (room_of walk.rooms) (min (shown_of walk.taker) partner.order.lots) partner.route;
  price = partner.order.price;
  route = partner.route;
}

-- a leg of the taker goes over a route of the search, whose arcs have room for it
pub record CanGoOn (graph : Graph) (walk : Walk) (leg : Leg) : Type 0 where
  pub is_graph : IsGraph graph
  pub in_zone : HasZone graph walk.taker.zone
  pub size : length walk.rooms ≡ border_count graph
  pub carry : CanCarry (length walk.rooms) (room_of walk.rooms) leg.lots leg.route
  pub arcs : (arc : Arc) → IsIn arc leg.route → arc.border < length walk.rooms
  pub fill : CanFill walk.taker leg.lots
  pub fresh : IsFresh graph (room_of walk.rooms) walk.search
  pub zone : walk.search.zone ≡ walk.taker.zone
  pub towards : walk.search.towards ≡ is_towards walk.taker.side
  pub other : ℕ
  pub route : searched_route graph (room_of walk.rooms) walk.search other ≡ Some leg.route

-- what stands after it, at a place of the hour's events
pub record HasGoneOn (graph : Graph) (before : Walk) (leg : Leg) (place : ℕ) (after : Walk) : Type 0 where
  pub part : after.part ≡ before.part
  pub passed : after.passed ≡ before.passed
  pub at_place : after.place ≡ place
  pub taker : after.taker ≡ after_fill before.taker leg.lots place
  pub size : length after.rooms ≡ length before.rooms
  pub rooms : (arc : Arc) → room_of after.rooms arc ≡ room_after (room_of before.rooms) (record { route = leg.route; lots = leg.lots }) arc
  pub fresh : IsFresh graph (room_of after.rooms) after.search
  pub zone : after.search.zone ≡ before.taker.zone
  pub towards : after.search.towards ≡ is_towards before.taker.side
