-- The price of the showing peak, where a test says in which direction the peaks move.
use Rattle.std.specs.Prelude.{ℕ, ℤ, Bool, true, false}
use Rattle.order_kinds.specs.declared.price.Price.{Price}
use Rattle.order_kinds.specs.declared.side.Side.{Side}
use Rattle.order_kinds.specs.declared.side.Side.TheVariants.{Buy, Sell}
use Rattle.iceberg_peak.specs.Peak.{showing_price}

-- the side whose peaks move up, or down: a sell's get dearer, a buy's cheaper
abbrev pub side_moving_up : Bool → Side
side_moving_up true = Sell
side_moving_up false = Buy

-- the price of the peak that shows after so many filled lots, from the cents of the first peak
abbrev pub price_after : (side_up : Bool) (cents : ℤ) (peak delta filled : ℕ) → Price
price_after side_up cents peak delta filled =
    showing_price (side_moving_up side_up) (record { 0 = cents }) peak delta filled
