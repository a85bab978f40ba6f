-- Orders and blocks: the peaks of an iceberg, the first fault of an order's own numbers, and names.
use Rattle.std.specs.Prelude.{ℕ, ◌+◌, ◌-◌, ◌*◌, ◌/◌, Bool, true, false, ◌&&◌, List, ◌++◌, pos, ◌+ℤ◌, ◌-ℤ◌, nat_lt, nat_le, decimal, codes, Option, Some, None, Result, Ok, Err}
use Rattle.order_kinds.specs.declared.price.Price.{Price}
use Rattle.order_kinds.specs.declared.price.Lots.{Lots}
use Rattle.order_kinds.specs.declared.side.Side.{Side}
use Rattle.order_kinds.specs.declared.side.Side.TheVariants.{Buy, Sell}
use Rattle.order_kinds.specs.declared.order.Kind.{Kind}
use Rattle.order_kinds.specs.declared.order.Kind.TheVariants as kind
use Rattle.order_kinds.specs.declared.order.Order.{Order}
use Rattle.order_kinds.specs.declared.order.BlockOrder.{BlockOrder}
use Rattle.order_kinds.specs.declared.order.OrderName.{OrderName}
use Rattle.order_kinds.specs.declared.order.OrderFault.{OrderFault}
use Rattle.order_kinds.specs.declared.order.OrderFault.TheVariants.{PriceOutOfRange, QuantityOutOfRange, BadPeak}
use Rattle.order_kinds.specs.Price.{price_in_range, lots_in_range}
use Rattle.order_kinds.specs.Contract.{hour_text}

-- a plain limit order: what is not traded rests, and all of it shows
abbrev pub is_limit : Kind → Bool
is_limit kind.Limit = true
is_limit _ = false

-- an order that is traded wholly or not at all
abbrev pub is_fill_or_kill : Kind → Bool
is_fill_or_kill kind.Fok = true
is_fill_or_kill _ = false

-- the number, counted from 0, of the peak that shows after so many filled lots
abbrev pub peak_number : (peak filled : ℕ) → ℕ
peak_number peak filled = filled / peak

-- the number of the last peak: the one that shows when one lot is left
abbrev pub last_peak : (total peak : ℕ) → ℕ
last_peak total peak = peak_number peak (total - 1)

-- how many peaks there are
abbrev pub peak_count : (total peak : ℕ) → ℕ
peak_count total peak = last_peak total peak + 1

-- the price of the peak of this number: each peak is dearer than the one before by delta if it
-- sells, and cheaper by delta if it buys
abbrev pub peak_price : Side → Price → (delta number : ℕ) → Price
peak_price Buy price delta number = record { 0 = price.0 -ℤ pos (delta * number) }
peak_price Sell price delta number = record { 0 = price.0 +ℤ pos (delta * number) }

-- the price of an iceberg's last peak
abbrev pub last_peak_price : Side → Price → (total peak delta : ℕ) → Price
last_peak_price side price total peak delta = peak_price side price delta (last_peak total peak)

-- an iceberg shows something and hides something, in at most 100 peaks, the last at an allowed price
abbrev pub peaks_allowed : Side → Price → (total peak delta : ℕ) → Bool
peaks_allowed side price total peak delta =
    nat_lt 0 peak && nat_lt peak total && nat_le (peak_count total peak) 100
    && price_in_range (last_peak_price side price total peak delta)

-- the order is no iceberg, or its peaks are allowed
abbrev pub has_allowed_peaks : Order → Bool
has_allowed_peaks order = by_kind order.kind
  where
    by_kind : Kind → Bool
    by_kind kind.Limit = true
    by_kind kind.Ioc = true
    by_kind kind.Fok = true
    by_kind (kind.Iceberg peak delta) =
        peaks_allowed order.side order.price order.quantity.0 peak.0 delta

-- the fault where its test does not hold, else the first of the faults that follow
abbrev pub fault_unless : Bool → OrderFault → Option OrderFault → Option OrderFault
fault_unless true fault following = following
fault_unless false fault following = Some fault

-- the first fault of a price and a quantity, else of what follows
abbrev pub numbers_fault : Price → Lots → Option OrderFault → Option OrderFault
numbers_fault price quantity following =
    fault_unless (price_in_range price) PriceOutOfRange
    (fault_unless (lots_in_range quantity) QuantityOutOfRange following)

-- the first fault of an order's own numbers: its price, its quantity, its peaks
abbrev pub order_fault : Order → Option OrderFault
order_fault order =
    numbers_fault order.price order.quantity (fault_unless (has_allowed_peaks order) BadPeak None)

-- the first fault of a block's own numbers: its price, its quantity
abbrev pub block_fault : BlockOrder → Option OrderFault
block_fault block = numbers_fault block.price block.quantity None

-- what a fault says of an order or block
abbrev pub fault_text : OrderFault → List ℕ
fault_text PriceOutOfRange = codes "the price is out of range"
fault_text QuantityOutOfRange = codes "the quantity is out of range"
fault_text BadPeak = codes "the iceberg's peak is not below its total, or it has too many peaks, or its last peak's price is out of range"

-- the answer of a check: the fault, if there is one
abbrev pub ok_unless : Option OrderFault → Result (Unit {0}) OrderFault
ok_unless None = Ok tt
ok_unless (Some fault) = Err fault

-- the name of an order or block: its hour, `#` and its number
abbrev pub name_text : OrderName → List ℕ
name_text name = hour_text name.hour ++ (codes "#" ++ decimal name.number)
