-- Resting orders as a board shows them, and who of them trades first. No public clause cites this
-- module.
use Rattle.std.specs.Prelude.{◌≡◌, ℕ, Bool, false, ◌==◌, ◌&&◌, List, [], ◌∷◌, map, min, Option, Some, None, length, slice_index_or, if◌then◌else◌}
use Rattle.std.specs.List.{find}
use Rattle.std.specs.Option.{option_map}
use Rattle.std.specs.Ordering.{is_lt, nat_cmp, ordering_then}
use Rattle.order_kinds.specs.declared.side.Side.{Side}
use Rattle.order_kinds.specs.declared.side.Side.TheVariants.{Buy, Sell}
use Rattle.order_kinds.specs.Contract.{contract_at}
use Rattle.order_kinds.specs.Period.{contract_quarters}
use Rattle.order_kinds.specs.Side.{crosses, price_cmp}
use Rattle.zone_graph.specs.declared.route.Arc.{Arc}
use Rattle.zone_graph.specs.Graph.{Graph, HasArc, border_count}
use Rattle.zone_graph.specs.Reach.{reaches}
use Rattle.zone_graph.specs.Rooms.{room_of}
use Rattle.zone_graph.specs.Route.{best_route, carried}
use Rattle.route_choice.specs.Freshness.{is_known}
use Rattle.route_choice.specs.Tree.{Tree}
use Rattle.market_model.specs.declared.board.Shown.{Shown}
use Rattle.market_model.specs.declared.event.Leg.{Leg}
use Rattle.market_model.specs.Board.{BoardState, resting_line, shown_of}
use Rattle.market_model.specs.Room.{room}
use Rattle.market_model.specs.Sweep.{first_answer}
use Rattle.market_model.specs.Taking.{◌>>=◌}

-- the line of a part and side, as a board shows it
abbrev pub shown_line : BoardState → (part : ℕ) → Side → List Shown
shown_line board part side = map shown_of (resting_line board part side)

-- the first of a line, if there is one
abbrev pub first_of : List Shown → Option Shown
first_of [] = None
first_of (order ∷ orders) = Some order

-- the part of a line from the order of a number on, and from an order that was found in it
abbrev pub from_number : (number : ℕ) → List Shown → List Shown
from_number number [] = []
from_number number (order ∷ orders) = if order.number == number then (order ∷ orders) else from_number number orders

abbrev pub from_order : List Shown → (found : Option Shown) → List Shown
from_order line None = []
from_order line (Some order) = from_number order.number line

-- the rooms of the arcs over the quarters of a part
abbrev pub part_room : BoardState → (part : ℕ) → Arc → ℕ
part_room board part = room board.events (contract_quarters (contract_at board.hour part))

-- a row has them
pub record AreRoomsOf (board : BoardState) (part : ℕ) (row : List (ℕ × ℕ)) : Type 0 where
  pub size : length row ≡ border_count board.grid
  pub rooms : (arc : Arc) → HasArc board.grid arc → room_of row arc ≡ part_room board part arc

-- a buy and a sell can trade: their prices cross, and the sell's zone is one of those from which a route
-- leads to the buy's
abbrev pub can_meet_from : (leads : ℕ → Bool) → (buy sell : Shown) → Bool
can_meet_from leads buy sell = crosses Buy buy.price sell.price && leads sell.zone

-- so the rooms tell it
abbrev pub can_meet : Graph → (Arc → ℕ) → (buy sell : Shown) → Bool
can_meet graph room buy sell = can_meet_from (λ zone. reaches graph room zone buy.zone) buy sell

-- so a search towards the buy's zone tells it
abbrev pub is_met : Tree → (buy sell : Shown) → Bool
is_met search buy sell = can_meet_from (is_known search) buy sell

-- sells among which each buy that pays no more than the best one finds the one of a line that it trades
-- with, whatever zones lead to its own
abbrev pub AreFronts : (sells : List Shown) → (best : Shown) → (fronts : List Shown) → Type 0
AreFronts sells best fronts = (leads : ℕ → Bool) (buy : Shown) → is_lt (price_cmp Buy buy.price best.price) ≡ false
    → find (can_meet_from leads buy) fronts ≡ find (can_meet_from leads buy) sells

-- sells among which the buys of a part find those of the part that they trade with
abbrev pub DecideForBuys : BoardState → (part : ℕ) → (fronts : List Shown) → Type 0
DecideForBuys board part fronts = (best : Shown) → first_of (shown_line board part Buy) ≡ Some best → AreFronts (shown_line board part Sell) best fronts

-- a buy was there earlier than a sell: at the earlier moment, or at the same with the smaller number
abbrev pub is_earlier : (buy sell : Shown) → Bool
is_earlier buy sell = is_lt (ordering_then (nat_cmp buy.moment sell.moment) (nat_cmp buy.number sell.number))

-- the leg of a taker with a maker over a route: at the maker's price, for the least of what both show
-- and what the route can carry
abbrev pub leg_between : (hour : ℕ) → (Arc → ℕ) → (taker maker : Shown) → List Arc → Leg
leg_between hour room taker maker route = record {
  taker = record { hour = hour; number = taker.number };
  maker = record { hour = hour; number = maker.number };
  lots = carried room (min taker.lots maker.lots) route;
  price = maker.price;
  route = route;
}

-- the leg of a buy and a sell over a route: the one that was there earlier is the maker
abbrev pub resting_leg : (hour : ℕ) → (Arc → ℕ) → (buy sell : Shown) → List Arc → Leg
resting_leg hour room buy sell route =
    if is_earlier buy sell then leg_between hour room sell buy route else leg_between hour room buy sell route

-- the leg of a buy with a sell, over the best route
abbrev pub leg_with : Graph → (hour : ℕ) → (Arc → ℕ) → (buy sell : Shown) → Option Leg
leg_with graph hour room buy sell = option_map (resting_leg hour room buy sell) (best_route graph room sell.zone buy.zone)

-- the leg of a buy, with the first of some sells that it can trade with
abbrev pub leg_of_buy : Graph → (hour : ℕ) → (Arc → ℕ) → (sells : List Shown) → (buy : Shown) → Option Leg
leg_of_buy graph hour room sells buy = find (can_meet graph room buy) sells >>= leg_with graph hour room buy

-- the leg of the first of some buys that has one
abbrev pub leg_of_lines : Graph → (hour : ℕ) → (Arc → ℕ) → (sells buys : List Shown) → Option Leg
leg_of_lines graph hour room sells buys = first_answer (leg_of_buy graph hour room sells) buys

-- so it is with the lines of a part
abbrev pub leg_of_shown : BoardState → (part : ℕ) → (buy : Shown) → Option Leg
leg_of_shown board part buy = leg_of_buy board.grid board.hour (part_room board part) (shown_line board part Sell) buy

abbrev pub shown_leg : BoardState → (part : ℕ) → Option Leg
shown_leg board part = leg_of_lines board.grid board.hour (part_room board part) (shown_line board part Sell) (shown_line board part Buy)

-- a zone is marked
abbrev pub is_marked : List Bool → (zone : ℕ) → Bool
is_marked marks zone = slice_index_or marks zone false
