-- What crosses a taker's price, of orders that are given.
use Rattle.std.specs.Prelude.{ℕ, ◌+◌, ◌≤◌, List, filter, sum_by}
use Rattle.std.specs.List.{range_with_len}
use Rattle.iceberg_peak.specs.Peak.{peak_left}
use Rattle.order_kinds.specs.declared.order.Order.{Order}
use Rattle.order_kinds.specs.Order.{peak_price}
use Rattle.order_kinds.specs.Side.{crosses}
use Rattle.zone_graph.specs.Pour.{lots_if}
use Rattle.zone_graph.specs.Route.{IsIn, has}
use Rattle.market_model.specs.Certificate.{crossing_lots}
use Rattle.market_model.specs.Orders.{Standing}
use Rattle.plain_orders.specs.Histories.{HasSoundNumbers}

-- an order as it stands has sound numbers, at most 999.0 MW are left of it, and no more than was
-- entered is filled and left
pub record IsSound (order : Standing) : Type 0 where
  pub numbers : HasSoundNumbers order.order
  pub most : order.left ≤ 9990
  pub within : order.filled + order.left ≤ order.order.quantity.0

-- so has each of some orders
pub record AreSound (orders : List Standing) : Type 0 where
  pub each : (order : Standing) → IsIn order orders → IsSound order

-- what crosses of an order, if it stands in one of some zones
abbrev pub lots_inside : (taker : Order) → (zones : List ℕ) → Standing → ℕ
lots_inside taker zones other = lots_if (has other.order.zone zones) (crossing_lots taker other)

-- what crosses of those of some orders that stand in some zones
unfoldable pub crossing_in : (taker : Order) → (zones : List ℕ) → List Standing → ℕ
crossing_in taker zones orders = sum_by (crossing_lots taker) (filter (λ other. has other.order.zone zones) orders)

-- what is left of a peak of an iceberg, if its price crosses
abbrev pub crossing_peak : (taker order : Order) → (peak delta filled left number : ℕ) → ℕ
crossing_peak taker order peak delta filled left number =
    lots_if (crosses taker.side taker.price (peak_price order.side order.price delta number)) (peak_left (filled + left) peak filled number)

-- what crosses of the first peaks of an iceberg
unfoldable pub crossing_peaks : (taker order : Order) → (peak delta filled left count : ℕ) → ℕ
crossing_peaks taker order peak delta filled left count = sum_by (crossing_peak taker order peak delta filled left) (range_with_len 0 count)
