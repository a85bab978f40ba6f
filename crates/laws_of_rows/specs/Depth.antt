-- The depth of a market as a taker in a zone finds it: what the makers of a line show, the rooms of
-- the arcs, and what is left to take. Each trade lowers all three.
use Rattle.std.specs.Prelude.{ℕ, ◌-◌, Bool, ◌&&◌, List, map, min, Option, None, is_some, nat_lt, if◌then◌else◌}
use Rattle.std.specs.List.{find}
use Rattle.std.specs.Option.{option_and_then, option_map}
use Rattle.order_kinds.specs.declared.order.OrderName.{OrderName}
use Rattle.order_kinds.specs.declared.side.Side.{Side}
use Rattle.order_kinds.specs.declared.side.Side.TheVariants.{Buy, Sell}
use Rattle.order_kinds.specs.Same.{same_name}
use Rattle.order_kinds.specs.Side.{crosses, opposite}
use Rattle.zone_graph.specs.declared.route.Arc.{Arc}
use Rattle.zone_graph.specs.Graph.{Graph, HasZone}
use Rattle.zone_graph.specs.Pour.{room_after}
use Rattle.zone_graph.specs.Rooms.{room_of}
use Rattle.zone_graph.specs.Route.{IsIn, best_route, carried}
use Rattle.market_model.specs.declared.event.Leg.{Leg}
use Rattle.market_model.specs.Orders.{Standing}
use Rattle.market_model.specs.View.{any_price}
use Rattle.laws_of_rows.specs.declared.trades.Fill.{Fill}
use Rattle.laws_of_rows.specs.declared.trades.Maker.{Maker}

-- an order of a line as a maker, of which nothing is taken yet
abbrev pub maker_of : Standing → Maker
maker_of order = record { name = order.name; zone = order.order.zone; price = order.price; left = order.shown }

-- the zones of some makers are in a graph
pub record AreInZones (graph : Graph) (makers : List Maker) : Type 0 where
  pub each : (maker : Maker) → IsIn maker makers → HasZone graph maker.zone

-- what a taker finds
pub record Depth : Type 0 where
  pub makers : List Maker
  pub room : Arc → ℕ
  pub left : ℕ

abbrev pub depth_of : List Maker → List (ℕ × ℕ) → (left : ℕ) → Depth
depth_of makers rooms left = record { makers = makers; room = room_of rooms; left = left }

-- the zones of the seller and of the buyer, where a taker in a zone trades with a maker of a side
abbrev pub seller_zone : Side → (zone : ℕ) → Maker → ℕ
seller_zone Buy zone maker = zone
seller_zone Sell zone maker = maker.zone

abbrev pub buyer_zone : Side → (zone : ℕ) → Maker → ℕ
buyer_zone Buy zone maker = maker.zone
buyer_zone Sell zone maker = zone

-- the best route between them
abbrev pub route_with : Graph → (Arc → ℕ) → Side → (zone : ℕ) → Maker → Option (List Arc)
route_with graph room side zone maker = best_route graph room (seller_zone side zone maker) (buyer_zone side zone maker)

-- the price of a maker of a side crosses that of a taker at any price
abbrev pub crosses_any : Side → Maker → Bool
crosses_any side maker = crosses (opposite side) (any_price (opposite side)) maker.price

-- a taker in a zone can trade with a maker of a side
abbrev pub can_fill : Graph → (Arc → ℕ) → Side → (zone : ℕ) → Maker → Bool
can_fill graph room side zone maker = nat_lt 0 maker.left && crosses_any side maker && is_some (route_with graph room side zone maker)

-- the trade with a maker over a route
abbrev pub fill_over : (Arc → ℕ) → (left : ℕ) → Maker → List Arc → Fill
fill_over room left maker route = record {
  maker = maker.name;
  price = maker.price;
  lots = carried room (min left maker.left) route;
  route = route;
}

-- the trade with a maker over the best route
abbrev pub fill_with : Graph → (Arc → ℕ) → Side → (zone left : ℕ) → Maker → Option Fill
fill_with graph room side zone left maker = option_map (fill_over room left maker) (route_with graph room side zone maker)

-- the next trade: with the first maker with which one can be made
abbrev pub next_fill : Graph → Side → (zone : ℕ) → Depth → Option Fill
next_fill graph side zone depth =
    if nat_lt 0 depth.left
    then option_and_then (fill_with graph depth.room side zone depth.left) (find (can_fill graph depth.room side zone) depth.makers)
    else None

-- lots are taken of the maker of a name
abbrev pub taken_of : OrderName → (lots : ℕ) → Maker → Maker
taken_of name lots maker = if same_name maker.name name then record maker { left = maker.left - lots } else maker

-- the depth after a trade
abbrev pub after_fill : Depth → Fill → Depth
after_fill depth fill = record {
  makers = map (taken_of fill.maker fill.lots) depth.makers;
  room = room_after depth.room (record { route = fill.route; lots = fill.lots });
  left = depth.left - fill.lots;
}

-- a trade as the leg of a taker of this name
abbrev pub leg_of : OrderName → Fill → Leg
leg_of taker fill = record { taker = taker; maker = fill.maker; lots = fill.lots; price = fill.price; route = fill.route }
