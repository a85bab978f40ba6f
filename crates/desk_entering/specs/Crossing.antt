-- What crosses a taker's price, of orders as a book records them.
use Rattle.std.specs.Prelude.{ℕ, ◌+◌, List, filter, sum_by, Option, Some, None}
use Rattle.std.specs.List.{range_with_len}
use Rattle.contract_book.specs.declared.resting.Ice.{Ice}
use Rattle.contract_book.specs.declared.resting.Resting.{Resting}
use Rattle.iceberg_peak.specs.Peak.{peak_left}
use Rattle.order_kinds.specs.declared.order.Order.{Order}
use Rattle.order_kinds.specs.Order.{peak_count, peak_price}
use Rattle.order_kinds.specs.Side.{crosses}
use Rattle.zone_graph.specs.declared.route.Arc.{Arc}
use Rattle.zone_graph.specs.Graph.{Graph}
use Rattle.zone_graph.specs.Pour.{lots_if}
use Rattle.zone_graph.specs.Route.{has}
use Rattle.market_model.specs.Certificate.{room_across}

-- what is left of the peak of this number of an iceberg, if its price crosses
abbrev pub crossing_peak : (taker : Order) → Resting → Ice → (number : ℕ) → ℕ
crossing_peak taker order ice number =
    lots_if (crosses taker.side taker.price (peak_price order.side ice.price ice.delta number)) (peak_left (ice.filled + order.left) ice.peak ice.filled number)

-- what crosses of the first peaks of an iceberg
unfoldable pub crossing_peaks : (taker : Order) → Resting → Ice → (count : ℕ) → ℕ
crossing_peaks taker order ice count = sum_by (crossing_peak taker order ice) (range_with_len 0 count)

-- the lots of an order that cross a taker's price: of an iceberg, whose lots go from what is filled up
-- to what is filled and left, those of each peak that crosses, hidden ones too; of any other order all
-- that is left, where its price crosses
abbrev pub crossing_of : (taker : Order) → Resting → ℕ
crossing_of taker order = by_ice order.ice
  where
    by_ice : Option Ice → ℕ
    by_ice (Some ice) = crossing_peaks taker order ice (peak_count (ice.filled + order.left) ice.peak)
    by_ice None = lots_if (crosses taker.side taker.price order.price) order.left

-- what crosses of an order, if it rests in one of some zones
abbrev pub lots_inside : (taker : Order) → (zones : List ℕ) → Resting → ℕ
lots_inside taker zones order = lots_if (has order.zone zones) (crossing_of taker order)

-- what crosses of those of some orders that rest in some zones
unfoldable pub crossing_in : (taker : Order) → (zones : List ℕ) → List Resting → ℕ
crossing_in taker zones orders = sum_by (crossing_of taker) (filter (λ order. has order.zone zones) orders)

-- the most that an order can obtain of some zones and from outside them: what crosses of a line inside
-- them, and the room across their borders
abbrev pub bound_in : Graph → (Arc → ℕ) → List Resting → (taker : Order) → (zones : List ℕ) → ℕ
bound_in graph room orders taker zones = crossing_in taker zones orders + room_across graph room taker.side zones
