-- The peaks of an iceberg after some of it is filled. That an iceberg shows one peak at a time is in
-- the public description of the coupling; the exact rule is this profile's.
use Rattle.std.specs.Prelude.{ℕ, ◌+◌, ◌-◌, ◌*◌, ◌%◌, min, max}
use Rattle.order_kinds.specs.declared.price.Price.{Price}
use Rattle.order_kinds.specs.declared.side.Side.{Side}
use Rattle.order_kinds.specs.Order.{peak_number, peak_price}

-- the lots that the showing peak shows after so many filled lots: what is left of the peak, or of
-- the order where that is less
abbrev pub peak_shown : (peak filled left : ℕ) → ℕ
peak_shown peak filled left = min (peak - filled % peak) left

-- the price of the peak that shows after so many filled lots
abbrev pub showing_price : Side → Price → (peak delta filled : ℕ) → Price
showing_price side price peak delta filled = peak_price side price delta (peak_number peak filled)

-- the lots that are left of the peak of this number, counted from 0: the peaks stand one behind the
-- other, and are filled in order
abbrev pub peak_left : (total peak filled number : ℕ) → ℕ
peak_left total peak filled number = min (peak * (number + 1)) total - max (peak * number) filled
