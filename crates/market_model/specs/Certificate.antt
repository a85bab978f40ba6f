-- Why an order cannot be filled: a set of zones, and what can come into it at the most. The bound is
-- that of a cut in textbooks on maximum flow.
use Rattle.std.specs.Prelude.{ℕ, ◌+◌, List, filter, sum_by}
use Rattle.std.specs.List.{range_with_len}
use Rattle.order_kinds.specs.declared.order.Kind.{Kind}
use Rattle.order_kinds.specs.declared.order.Kind.TheVariants as kind
use Rattle.order_kinds.specs.declared.order.Order.{Order}
use Rattle.order_kinds.specs.declared.side.Side.{Side}
use Rattle.order_kinds.specs.declared.side.Side.TheVariants.{Buy, Sell}
use Rattle.order_kinds.specs.Order.{peak_count, peak_price}
use Rattle.order_kinds.specs.Period.{contract_quarters}
use Rattle.order_kinds.specs.Side.{crosses, opposite}
use Rattle.iceberg_peak.specs.Peak.{peak_left}
use Rattle.zone_graph.specs.declared.route.Arc.{Arc}
use Rattle.zone_graph.specs.Graph.{Graph}
use Rattle.zone_graph.specs.Pour.{lots_if}
use Rattle.zone_graph.specs.Reach.{entering_room, leaving_room, zones_beyond, zones_towards}
use Rattle.zone_graph.specs.Route.{has}
use Rattle.market_model.specs.declared.event.Event.{Event}
use Rattle.market_model.specs.Entering.{after_taking, with_order}
use Rattle.market_model.specs.Lines.{line}
use Rattle.market_model.specs.Orders.{Standing}
use Rattle.market_model.specs.Room.{room}

-- the lots of an order that cross a taker's price, where so much of it is filled and left: of an
-- iceberg, whose lots go from what is filled up to what is filled and left, those of each peak that
-- crosses, hidden ones too; of any other order all that is left, where its price crosses
abbrev pub crosses_left : (taker order : Order) → (filled left : ℕ) → ℕ
crosses_left taker order filled left = by_kind order.kind
  where
    by_kind : Kind → ℕ
    by_kind (kind.Iceberg peak delta) = sum_by
        (λ number. lots_if (crosses taker.side taker.price (peak_price order.side order.price delta number)) (peak_left (filled + left) peak.0 filled number))
        (range_with_len 0 (peak_count (filled + left) peak.0))
    by_kind _ = lots_if (crosses taker.side taker.price order.price) left

-- the lots of a resting order that cross a taker's price
abbrev pub crossing_lots : (taker : Order) → Standing → ℕ
crossing_lots taker other = crosses_left taker other.order other.filled other.left

-- what crosses of the opposite orders that stand in some zones
abbrev pub crossing_inside : List Event → (taker : Order) → (zones : List ℕ) → ℕ
crossing_inside events taker zones =
    sum_by (crossing_lots taker) (filter (λ other. has other.order.zone zones) (line events taker.contract (opposite taker.side)))

-- the zones that a taker's zone can still trade with: for a buy those that reach it, for a sell
-- those that it reaches
abbrev pub zones_in_reach : Graph → (Arc → ℕ) → Side → (zone : ℕ) → List ℕ
zones_in_reach graph room Buy zone = zones_towards graph room zone
zones_in_reach graph room Sell zone = zones_beyond graph room zone

-- the room of the arcs over which energy comes to a buy from outside some zones, or goes out of them
-- from a sell
abbrev pub room_across : Graph → (Arc → ℕ) → Side → (zones : List ℕ) → ℕ
room_across graph room Buy zones = entering_room graph room zones
room_across graph room Sell zones = leaving_room graph room zones

-- the zones that are still in reach where an order's taking ends
unfoldable pub unfilled_zones : Graph → List Event → (caller : ℕ) → Order → List ℕ
unfilled_zones graph events caller order =
    zones_in_reach graph (room (after_taking graph events caller order) (contract_quarters order.contract)) order.side order.zone

-- the most that an order can obtain of some zones and from outside them, as its taking starts: what
-- crosses inside them, and the room across their borders
unfoldable pub bound_of : Graph → List Event → (caller : ℕ) → Order → (zones : List ℕ) → ℕ
bound_of graph events caller order zones =
    let start = with_order events caller order in
    crossing_inside start order zones + room_across graph (room start (contract_quarters order.contract)) order.side zones
