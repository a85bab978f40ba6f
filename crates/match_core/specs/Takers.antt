-- An order in hand, as it takes, and what a fill leaves of it.
use Rattle.std.specs.Prelude.{ℕ, zero, suc, ◌+◌, ◌-◌, ◌%◌, ◌<◌, ◌≤◌, ◌==◌, List, Option, Some, None, IsTrue, if◌then◌else◌}
use Rattle.order_kinds.specs.declared.order.Order.{Order}
use Rattle.order_kinds.specs.declared.price.Price.{Price}
use Rattle.order_kinds.specs.declared.side.Side.{Side}
use Rattle.order_kinds.specs.Price.{price_in_range}
use Rattle.iceberg_peak.specs.Peak.{peak_shown, showing_price}
use Rattle.contract_book.specs.declared.resting.Ice.{Ice}
use Rattle.market_model.specs.declared.event.Event.{Event}
use Rattle.market_model.specs.Orders.{Placed, filled, left, moment, price_now}
use Rattle.laws_of_books.specs.BookOf.{ice_of}
use Rattle.match_core.specs.declared.taker.Taker.{Taker}

-- the price of an order of which so much is filled and left: that of the peak that shows, and where
-- nothing is left that of the last peak that showed
abbrev pub price_at : Order → (filled left : ℕ) → Price
price_at order filled zero = price_now order (filled - 1)
price_at order filled (suc more) = price_now order filled

-- an order of which so much is filled and left, and which has this moment, as it takes
abbrev pub taker_at : Placed → (filled left moment : ℕ) → Taker
taker_at order filled left moment = record {
  name = order.name;
  zone = order.order.zone;
  side = order.order.side;
  price = price_at order.order filled left;
  left = left;
  moment = moment;
  ice = ice_of order.order filled;
}

-- an order after some events, as it takes
abbrev pub taker_of : List Event → Placed → Taker
taker_of events order = taker_at order (filled events order.name) (left events order.name) (moment events order)

-- what an order shows of which so much is left and that hides this
abbrev pub shown_by : Option Ice → (left : ℕ) → ℕ
shown_by None left = left
shown_by (Some ice) left = peak_shown ice.peak ice.filled left

-- what it shows
abbrev pub shown_of : Taker → ℕ
shown_of taker = shown_by taker.ice taker.left

-- a peak has a lot at least
abbrev pub HasLots : Option Ice → Type 0
HasLots None = Unit {0}
HasLots (Some ice) = 1 ≤ ice.peak

abbrev pub HasPeak : Taker → Type 0
HasPeak taker = HasLots taker.ice

-- the price of the peak that shows of an iceberg of some side after so many filled lots
abbrev pub price_showing : Side → Ice → (filled : ℕ) → Price
price_showing side ice filled = showing_price side ice.price ice.peak ice.delta filled

-- an iceberg can have so many filled lots: the peak that then shows, if one does, has an allowed price
pub record CanShow (taker : Taker) (ice : Ice) (filled : ℕ) : Type 0 where
  pub some : 1 ≤ ice.peak
  pub allowed : 0 < taker.left → IsTrue (price_in_range (price_showing taker.side ice filled))

-- the price that it then has
abbrev pub price_then : Taker → Ice → (filled left : ℕ) → Price
price_then taker ice filled zero = taker.price
price_then taker ice filled (suc more) = price_showing taker.side ice filled

-- with so many filled lots, at a moment
abbrev pub with_filled : Taker → Ice → (filled moment : ℕ) → Taker
with_filled taker ice filled moment = record taker {
  price = price_then taker ice filled taker.left;
  moment = if filled % ice.peak == 0 then moment else taker.moment;
  ice = Some (record ice { filled = filled });
}

-- with so many lots less
abbrev pub less_by : Taker → (lots : ℕ) → Taker
less_by taker lots = record taker { left = taker.left - lots }

-- an order can be filled by so many lots
abbrev pub CanHide : Taker → (lots : ℕ) → Option Ice → Type 0
CanHide taker lots None = Unit {0}
CanHide taker lots (Some ice) = (ice.filled + lots ≤ ice.total) × CanShow (less_by taker lots) ice (ice.filled + lots)

pub record CanFill (taker : Taker) (lots : ℕ) : Type 0 where
  pub within : lots ≤ taker.left
  pub hides : CanHide taker lots taker.ice

-- an order after a fill of so many lots of what it shows, at a moment
abbrev pub after_fill : Taker → (lots moment : ℕ) → Taker
after_fill taker lots moment = by_ice taker.ice
  where
    by_ice : Option Ice → Taker
    by_ice None = less_by taker lots
    by_ice (Some ice) = with_filled (less_by taker lots) ice (ice.filled + lots) moment
