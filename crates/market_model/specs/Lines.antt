-- The lines of the order book, and who trades with whom. Price then time is the public
-- description's; ties are settled by this market.
use Rattle.std.specs.Prelude.{ℕ, Bool, ◌&&◌, List, map, filter, Option}
use Rattle.std.specs.List.{find}
use Rattle.std.specs.Ordering.{nat_cmp, ordering_then}
use Rattle.std.specs.declared.cmp.Ordering.{Ordering}
use Rattle.order_kinds.specs.declared.contract.Contract.{Contract}
use Rattle.order_kinds.specs.declared.side.Side.{Side}
use Rattle.order_kinds.specs.declared.side.Side.TheVariants.{Buy, Sell}
use Rattle.order_kinds.specs.Period.{contract_quarters}
use Rattle.order_kinds.specs.Same.{same_contract, same_side}
use Rattle.order_kinds.specs.Side.{crosses, opposite, price_cmp}
use Rattle.zone_graph.specs.declared.route.Arc.{Arc}
use Rattle.zone_graph.specs.Graph.{Graph}
use Rattle.zone_graph.specs.Reach.{reaches}
use Rattle.zone_graph.specs.InOrder.{in_order}
use Rattle.market_model.specs.declared.event.Event.{Event}
use Rattle.market_model.specs.Orders.{Placed, Standing, is_open, placed, standing}
use Rattle.market_model.specs.Room.{room}

-- priority by time: the earlier moment, and of equal ones the smaller number
abbrev pub time_cmp : (a b : Standing) → Ordering
time_cmp a b = ordering_then (nat_cmp a.moment b.moment) (nat_cmp a.name.number b.name.number)

-- priority on a side: the better price now, then time
abbrev pub priority_cmp : Side → (a b : Standing) → Ordering
priority_cmp side a b = ordering_then (price_cmp side a.price b.price) (time_cmp a b)

-- an order is open, of a contract and on a side
abbrev pub stands_in : List Event → Contract → Side → Placed → Bool
stands_in events contract side order =
    is_open events order.name && same_contract order.order.contract contract && same_side order.order.side side

-- the line of a contract and side: its open orders in priority
unfoldable pub line : List Event → Contract → Side → List Standing
line events contract side =
    in_order (priority_cmp side) (map (standing events) (filter (stands_in events contract side) (placed events)))

-- the zones of the seller and of the buyer: energy goes from the one to the other
abbrev pub seller_zone : (own other : Standing) → ℕ
seller_zone own other = by_side own.order.side
  where
    by_side : Side → ℕ
    by_side Buy = other.order.zone
    by_side Sell = own.order.zone

abbrev pub buyer_zone : (own other : Standing) → ℕ
buyer_zone own other = by_side own.order.side
  where
    by_side : Side → ℕ
    by_side Buy = own.order.zone
    by_side Sell = other.order.zone

-- the rooms of the arcs over the quarters in which an order's contract delivers
abbrev pub rooms_for : List Event → Standing → Arc → ℕ
rooms_for events order arc = room events (contract_quarters order.order.contract) arc

-- two orders of opposite sides can trade: their prices cross, and a route leads from the seller to
-- the buyer
abbrev pub can_trade : Graph → (Arc → ℕ) → (own other : Standing) → Bool
can_trade graph room own other =
    crosses own.order.side own.price other.price && reaches graph room (seller_zone own other) (buyer_zone own other)

-- the partner of an order: the first of the opposite line that it can trade with
unfoldable pub partner : Graph → List Event → Standing → Option Standing
partner graph events own =
    find (can_trade graph (rooms_for events own) own) (line events own.order.contract (opposite own.order.side))
