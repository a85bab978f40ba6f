-- Partners and legs over rooms that are given, and in lines that are given.
use Rattle.std.specs.Prelude.{◌≡◌, ℕ, Bool, true, false, ◌&&◌, List, Option, Some, None, is_some, length, nat_lt, slice_index_or, if◌then◌else◌}
use Rattle.std.specs.List.{find, list_any}
use Rattle.std.specs.Option.{option_map}
use Rattle.std.specs.Ordering.{is_lt}
use Rattle.order_kinds.specs.declared.contract.Contract.{Contract}
use Rattle.order_kinds.specs.declared.contract.Part.{Part}
use Rattle.order_kinds.specs.declared.order.OrderName.{OrderName}
use Rattle.order_kinds.specs.declared.price.Price.{Price}
use Rattle.order_kinds.specs.declared.side.Side.{Side}
use Rattle.order_kinds.specs.declared.side.Side.TheVariants.{Buy, Sell}
use Rattle.order_kinds.specs.Period.{contract_quarters}
use Rattle.order_kinds.specs.Same.{same_name}
use Rattle.order_kinds.specs.Side.{crosses, opposite}
use Rattle.zone_graph.specs.declared.route.Arc.{Arc}
use Rattle.zone_graph.specs.Graph.{Graph, HasArc, HasZone, border_count}
use Rattle.zone_graph.specs.Rooms.{room_of}
use Rattle.zone_graph.specs.Route.{IsIn, best_route}
use Rattle.market_model.specs.declared.event.Event.{Event}
use Rattle.market_model.specs.Lines.{buyer_zone, can_trade, partner, seller_zone, time_cmp}
use Rattle.market_model.specs.Orders.{Standing}
use Rattle.market_model.specs.Room.{room}
use Rattle.market_model.specs.Sweep.{first_answer, leg_in}
use Rattle.market_model.specs.Taking.{leg_over, trade, ◌>>=◌}
use Rattle.plain_orders.specs.Listed.{line_of}

-- these are the rooms of a graph's arcs for a contract after some events
pub record AreRoomsFor (graph : Graph) (events : List Event) (contract : Contract) (made : List (ℕ × ℕ)) : Type 0 where
  pub size : length made ≡ border_count graph
  pub rooms : (arc : Arc) → HasArc graph arc → room_of made arc ≡ room events (contract_quarters contract) arc

-- the zones of some orders are in a graph
pub record AreInZones (graph : Graph) (orders : List Standing) : Type 0 where
  pub each : (order : Standing) → IsIn order orders → HasZone graph order.order.zone

-- an order is open and bears a name
abbrev pub is_open_as : OrderName → Standing → Bool
is_open_as name order = same_name order.name name && nat_lt 0 order.left

-- the prices of two orders cross
abbrev pub crosses_price : (own other : Standing) → Bool
crosses_price own other = crosses own.order.side own.price other.price

-- the price of an order crosses the best one of a line of the other side, if that has one
abbrev pub crosses_best : (own : Standing) → Option Price → Bool
crosses_best own None = false
crosses_best own (Some price) = crosses own.order.side own.price price

-- this is the best price of some sells, if there are any: a buy that does not cross it crosses none of them
pub record IsBestOfSells (best : Option Price) (sells : List Standing) : Type 0 where
  pub none : (buy : Standing) → buy.order.side ≡ Buy → crosses_best buy best ≡ false → list_any (crosses_price buy) sells ≡ false

-- some orders are buys
pub record AreBuys (orders : List Standing) : Type 0 where
  pub each : (order : Standing) → IsIn order orders → order.order.side ≡ Buy

-- the best prices of a line of buys and of one of sells cross, if both have one
abbrev pub best_cross : (buy sell : Option Price) → Bool
best_cross (Some buy) (Some sell) = crosses Buy buy sell
best_cross _ _ = false

-- the prices of two orders cross, and the other one's zone has a distance
abbrev pub is_in_reach : (distances : List (Option ℕ)) → (own other : Standing) → Bool
is_in_reach distances own other = crosses_price own other && is_some (slice_index_or distances other.order.zone None)

-- the side of an order is buy
abbrev pub is_buy : Side → Bool
is_buy Buy = true
is_buy Sell = false

-- the line that some orders make and in which an order seeks its partner
abbrev pub other_line : List Standing → (own : Standing) → List Standing
other_line orders own = line_of orders own.order.contract (opposite own.order.side)

-- the partner of an order in a line, over rooms
abbrev pub partner_in : Graph → (Arc → ℕ) → List Standing → (own : Standing) → Option Standing
partner_in graph room line own = find (can_trade graph room own) line

-- the leg of a taker with a maker, over the best route of rooms
abbrev pub trade_over : Graph → (Arc → ℕ) → (taker maker : Standing) → Option Event
trade_over graph room taker maker =
    option_map (leg_over room taker maker) (best_route graph room (seller_zone taker maker) (buyer_zone taker maker))

-- the leg of two resting orders, of which the earlier one is the maker
abbrev pub resting_trade_over : Graph → (Arc → ℕ) → (buy sell : Standing) → Option Event
resting_trade_over graph room buy sell =
    if is_lt (time_cmp buy sell) then trade_over graph room sell buy else trade_over graph room buy sell

-- the leg of a buy with its partner in a line of sells
abbrev pub leg_of_buy_over : Graph → (Arc → ℕ) → (sells : List Standing) → (buy : Standing) → Option Event
leg_of_buy_over graph room sells buy = partner_in graph room sells buy >>= resting_trade_over graph room buy

-- the leg of an order with its partner
abbrev pub leg_with_partner : Graph → List Event → (own : Standing) → Option Event
leg_with_partner graph events own = partner graph events own >>= trade graph events own

-- the leg in the first of some parts of an hour that has one
abbrev pub leg_in_parts : Graph → List Event → (hour : ℕ) → List Part → Option Event
leg_in_parts graph events hour parts = first_answer (λ part. leg_in graph events (record { hour = hour; part = part })) parts
