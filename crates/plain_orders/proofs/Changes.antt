-- Price changes of an iceberg's peaks, and what is known before an event is taken in.
use Rattle.std.proofs.Common.{◌≡◌, ℕ, zero, suc, ◌+◌, ◌-◌, ◌*◌, ◌/◌, ◌<◌, ◌≤◌, ◌&&◌, true, pos, neg_ℤ, ℤ, ◌≤ℤ◌, ◌+ℤ◌, ◌-ℤ◌, int_le, nat_le, nat_lt, refl, arith, w32, FitsSigned}
use Rattle.std.proofs.Math.Nat.{div-mul-le_self, mul-le-mul_left}
use Rattle.std.proofs.lemmas.Bool.{and_parts, leb-true, ltb-true}
use Rattle.std.proofs.lemmas.Nat.{le-div}
use Rattle.order_kinds.specs.declared.order.Kind.{Kind}
use Rattle.order_kinds.specs.declared.order.Kind.TheVariants as kind
use Rattle.order_kinds.specs.declared.order.Order.{Order}
use Rattle.order_kinds.specs.declared.price.Lots.{Lots}
use Rattle.order_kinds.specs.declared.price.Price.{Price}
use Rattle.order_kinds.specs.declared.side.Side.{Side}
use Rattle.order_kinds.specs.declared.side.Side.TheVariants.{Buy, Sell}
use Rattle.order_kinds.specs.Order.{last_peak, last_peak_price, peak_count, peak_price, peaks_allowed}
use Rattle.order_kinds.specs.Price.{price_in_range}
use Rattle.laws_of_market.proofs.Soundness.{lots_in_range-bounds, order_fault-none, peak-some}
use Rattle.plain_orders.specs.Histories.{HasSoundNumbers}
use Rattle.plain_orders.specs.Tallies.{HasPeak}

-- no more peaks are filled than the last one and those before it
number-most : (n filled total peak : ℕ) → n * peak ≤ filled → filled ≤ total → 1 ≤ peak → n ≤ (total - 1) / peak + 1
number-most zero filled total peak most within some = omega arith
number-most (suc m) filled total peak most within some =
    let low : m * peak ≤ total - 1 = omega (arith, most) in
    let fewer = le-div m (total - 1) peak some low in
    omega (arith, fewer)

-- the least and the greatest price are not further apart
fall-most : (cents : ℤ) (change : ℕ) → cents ≤ℤ pos 999900 → neg_ℤ (pos 999900) ≤ℤ (cents -ℤ pos change) → change ≤ 1999800
fall-most cents change high low = grind arith

rise-most : (cents : ℤ) (change : ℕ) → neg_ℤ (pos 999900) ≤ℤ cents → (cents +ℤ pos change) ≤ℤ pos 999900 → change ≤ 1999800
rise-most cents change low high = grind arith

between : (price : Price) → price_in_range price ≡ true → (neg_ℤ (pos 999900) ≤ℤ price.0) × (price.0 ≤ℤ pos 999900)
between price h =
    let both = and_parts (int_le (neg_ℤ (pos 999900)) price.0) (int_le price.0 (pos 999900)) h in
    (grind (arith, both.0), grind (arith, both.1))

last-change : (side : Side) (price : Price) (total peak delta : ℕ) → price_in_range price ≡ true → price_in_range (last_peak_price side price total peak delta) ≡ true
    → delta * last_peak total peak ≤ 1999800
last-change Buy price total peak delta own last =
    fall-most price.0 (delta * last_peak total peak) (between price own).1 (between (last_peak_price Buy price total peak delta) last).0
last-change Sell price total peak delta own last =
    rise-most price.0 (delta * last_peak total peak) (between price own).0 (between (last_peak_price Sell price total peak delta) last).1

-- the numbers of an iceberg's peaks
pub record PeaksAreSound (order : Order) (peak delta : ℕ) : Type 0 where
  pub some : 1 ≤ peak
  pub less : peak < order.quantity.0
  pub few : peak_count order.quantity.0 peak ≤ 100
  pub most : order.quantity.0 ≤ 9990
  pub price : price_in_range order.price ≡ true
  pub last : price_in_range (last_peak_price order.side order.price order.quantity.0 peak delta) ≡ true

pub peaks-sound : (order : Order) (peak : Lots) (delta : ℕ) → HasSoundNumbers order → order.kind ≡ kind.Iceberg peak delta → PeaksAreSound order peak.0 delta
peaks-sound order peak delta sound is =
    let numbers = order_fault-none order sound.no_fault in
    let total : ℕ = order.quantity.0 in
    let allowed : peaks_allowed order.side order.price total peak.0 delta ≡ true = rw is at numbers.peaks in
    let a = and_parts (nat_lt 0 peak.0 && nat_lt peak.0 total && nat_le (peak_count total peak.0) 100) (price_in_range (last_peak_price order.side order.price total peak.0 delta)) allowed in
    let b = and_parts (nat_lt 0 peak.0 && nat_lt peak.0 total) (nat_le (peak_count total peak.0) 100) a.0 in
    let c = and_parts (nat_lt 0 peak.0) (nat_lt peak.0 total) b.0 in
    record {
      some = ltb-true 0 peak.0 c.0;
      less = ltb-true peak.0 total c.1;
      few = leb-true (peak_count total peak.0) 100 b.1;
      most = (lots_in_range-bounds order.quantity numbers.quantity).1;
      price = numbers.price;
      last = a.1;
    }

-- how far the price of a peak is from that of the first one
pub change-most : (order : Order) (peak : Lots) (delta filled : ℕ) → HasSoundNumbers order → order.kind ≡ kind.Iceberg peak delta → filled ≤ order.quantity.0
    → delta * (filled / peak.0) ≤ 3999600
change-most order peak delta filled sound is within =
    let peaks = peaks-sound order peak delta sound is in
    let total : ℕ = order.quantity.0 in
    let some = peaks.some in
    let less = peaks.less in
    let last : delta * last_peak total peak.0 ≤ 1999800 = last-change order.side order.price total peak.0 delta peaks.price peaks.last in
    let more_than_one : 1 ≤ last_peak total peak.0 = le-div 1 (total - 1) peak.0 some (omega (arith, less)) in
    let most = number-most (filled / peak.0) filled total peak.0 (div-mul-le_self filled peak.0) within some in
    let one : delta * 1 ≤ delta * last_peak total peak.0 = mul-le-mul_left delta more_than_one in
    let all : delta * (filled / peak.0) ≤ delta * (last_peak total peak.0 + 1) = mul-le-mul_left delta most in
    omega (arith, last, one, all)

-- so the price of a peak fits
pub price-fits : (side : Side) (price : Price) (delta number : ℕ) → price_in_range price ≡ true → delta * number ≤ 3999600
    → FitsSigned w32 (peak_price side price delta number).0
price-fits Buy price delta number allowed most = let both = between price allowed in grind (arith, both.0, both.1, most)
price-fits Sell price delta number allowed most = let both = between price allowed in grind (arith, both.0, both.1, most)

-- and an order of which so much is filled has a peak with such a price
pub filled-fits : (order : Order) (peak : Lots) (delta filled : ℕ) → HasSoundNumbers order → order.kind ≡ kind.Iceberg peak delta → filled ≤ order.quantity.0
    → FitsSigned w32 (peak_price order.side order.price delta (filled / peak.0)).0
filled-fits order peak delta filled sound is within =
    price-fits order.side order.price delta (filled / peak.0) (peaks-sound order peak delta sound is).price (change-most order peak delta filled sound is within)

-- a sound order has a peak
pub sound-peak : (order : Order) → HasSoundNumbers order → HasPeak order.kind
sound-peak order sound = go order.kind refl
  where
    go : (k : Kind) → order.kind ≡ k → HasPeak k
    go kind.Limit is = tt
    go kind.Ioc is = tt
    go kind.Fok is = tt
    go (kind.Iceberg peak delta) is = peak-some order peak delta is (order_fault-none order sound.no_fault).peaks
