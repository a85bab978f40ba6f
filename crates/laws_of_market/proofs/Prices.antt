-- The price of each peak of an iceberg that can show is in range.
use Rattle.std.proofs.Common.{◌≡◌, ◌∙◌, ℕ, ◌-◌, ◌*◌, ◌/◌, ◌<◌, ◌≤◌, ◌&&◌, true, List, [], ℤ, pos, neg_ℤ, ◌+ℤ◌, ◌-ℤ◌, ◌≤ℤ◌, int_le, nat_lt, nat_le, refl, ap, arith}
use Rattle.std.proofs.Math.Nat.{div-add-mod, mul-le-mul_left, zero-div}
use Rattle.std.proofs.lemmas.Bool.{ltb-true, and_parts, and_from}
use Rattle.std.proofs.lemmas.Nat.{le-div}
use Rattle.iceberg_peak.specs.Peak.{showing_price}
use Rattle.order_kinds.specs.declared.order.Kind.{Kind}
use Rattle.order_kinds.specs.declared.order.Kind.TheVariants as kind
use Rattle.order_kinds.specs.declared.order.Order.{Order}
use Rattle.order_kinds.specs.declared.price.Price.{Price}
use Rattle.order_kinds.specs.declared.side.Side.{Side}
use Rattle.order_kinds.specs.declared.side.Side.TheVariants.{Buy, Sell}
use Rattle.order_kinds.specs.Order.{last_peak, last_peak_price, peak_count, peaks_allowed, has_allowed_peaks}
use Rattle.order_kinds.specs.Price.{price_in_range}
use Rattle.zone_graph.specs.Route.{IsIn}
use Rattle.market_model.specs.declared.event.Event.{Event}
use Rattle.market_model.specs.declared.setup.Setup.{Setup}
use Rattle.market_model.specs.Orders.{Placed, placed, price_now}
use Rattle.market_model.specs.WellFormed.{FitAfter}
use Rattle.laws_of_market.proofs.Placed.{all_are_sound}
use Rattle.laws_of_market.proofs.Soundness.{NumbersAreSound, order_fault-none}

-- cents between the least and the greatest price
record IsBetween (cents : ℤ) : Type 0 where
  low : neg_ℤ (pos 999900) ≤ℤ cents
  high : cents ≤ℤ pos 999900

between : (price : Price) → price_in_range price ≡ true → IsBetween price.0
between price h =
    let both = and_parts (int_le (neg_ℤ (pos 999900)) price.0) (int_le price.0 (pos 999900)) h in
    record { low = grind (arith, both.0); high = grind (arith, both.1) }

in_range : (price : Price) → IsBetween price.0 → price_in_range price ≡ true
in_range price is =
    and_from (int_le (neg_ℤ (pos 999900)) price.0) (int_le price.0 (pos 999900)) (let l = is.low in grind (arith, l)) (let h = is.high in grind (arith, h))

-- a change no greater than one that stays in range
up : (cents : ℤ) (change most : ℕ) → change ≤ most → IsBetween cents → IsBetween (cents +ℤ pos most) → IsBetween (cents +ℤ pos change)
up cents change most less a b = let l = a.low in let h = b.high in record { low = grind arith; high = grind arith }

down : (cents : ℤ) (change most : ℕ) → change ≤ most → IsBetween cents → IsBetween (cents -ℤ pos most) → IsBetween (cents -ℤ pos change)
down cents change most less a b = let l = b.low in let h = a.high in record { low = grind arith; high = grind arith }

-- a peak that can show is not behind the last
number-le : (total peak filled : ℕ) → 0 < peak → filled < total → filled / peak ≤ last_peak total peak
number-le total peak filled some less =
    let parts = div-add-mod filled peak in
    le-div (filled / peak) (total - 1) peak some (omega (arith, parts))

showing-between : (side : Side) (price : Price) (total peak delta filled : ℕ) → 0 < peak → filled < total → IsBetween price.0
    → IsBetween (last_peak_price side price total peak delta).0 → IsBetween (showing_price side price peak delta filled).0
showing-between Buy price total peak delta filled some less own last =
    down price.0 (delta * (filled / peak)) (delta * last_peak total peak) (mul-le-mul_left delta (number-le total peak filled some less)) own last
showing-between Sell price total peak delta filled some less own last =
    up price.0 (delta * (filled / peak)) (delta * last_peak total peak) (mul-le-mul_left delta (number-le total peak filled some less)) own last

by_kind : (order : Order) (given : Kind) → order.kind ≡ given → price_in_range order.price ≡ true → (filled : ℕ) → filled < order.quantity.0
    → ((peak : ℕ) (delta : ℕ) → peaks_allowed order.side order.price order.quantity.0 peak delta ≡ true → price_in_range (showing_price order.side order.price peak delta filled) ≡ true)
    → has_allowed_peaks (record order { kind = given }) ≡ true → price_in_range (price_now order filled) ≡ true
by_kind order kind.Limit is own filled less iceberg peaks = rw is own
by_kind order kind.Ioc is own filled less iceberg peaks = rw is own
by_kind order kind.Fok is own filled less iceberg peaks = rw is own
by_kind order (kind.Iceberg peak delta) is own filled less iceberg peaks = rw is (iceberg peak.0 delta peaks)

pub prices-in-range : (setup : Setup) (events : List Event) → FitAfter setup [] events → (order : Placed) → IsIn order (placed events) → (filled : ℕ)
    → filled < order.order.quantity.0 → price_in_range (price_now order.order filled) ≡ true
prices-in-range setup events fit order h filled less =
    by_kind order.order order.order.kind refl numbers.price filled less iceberg numbers.peaks
  where
    numbers : NumbersAreSound order.order
    numbers = order_fault-none order.order ((all_are_sound setup events fit).orders order h).sound

    iceberg : (peak delta : ℕ) → peaks_allowed order.order.side order.order.price order.order.quantity.0 peak delta ≡ true
        → price_in_range (showing_price order.order.side order.order.price peak delta filled) ≡ true
    iceberg peak delta allowed =
        let side : Side = order.order.side in
        let price : Price = order.order.price in
        let total : ℕ = order.order.quantity.0 in
        let a = and_parts (nat_lt 0 peak && nat_lt peak total && nat_le (peak_count total peak) 100) (price_in_range (last_peak_price side price total peak delta)) allowed in
        let b = and_parts (nat_lt 0 peak && nat_lt peak total) (nat_le (peak_count total peak) 100) a.0 in
        let c = and_parts (nat_lt 0 peak) (nat_lt peak total) b.0 in
        in_range (showing_price side price peak delta filled)
        (showing-between side price total peak delta filled (ltb-true 0 peak c.0) less (between price numbers.price) (between (last_peak_price side price total peak delta) a.1))

-- the first peak shows at the order's own price, and so does an order of any other kind
pub price-entered : (order : Order) → price_now order 0 ≡ order.price
price-entered order = go order.kind
  where
    first_peak : (side : Side) (price : Price) (peak delta : ℕ) → showing_price side price peak delta 0 ≡ price
    first_peak Buy price peak delta =
        let at : ℕ → Price = λ n. record { 0 = price.0 -ℤ pos (delta * n) } in
        let first : 0 / peak ≡ 0 = zero-div peak in
        let none : price.0 -ℤ pos (delta * 0) ≡ price.0 = grind arith in
        ap at first ∙ ap (λ z. record { 0 = z }) none
    first_peak Sell price peak delta =
        let at : ℕ → Price = λ n. record { 0 = price.0 +ℤ pos (delta * n) } in
        let first : 0 / peak ≡ 0 = zero-div peak in
        let none : price.0 +ℤ pos (delta * 0) ≡ price.0 = grind arith in
        ap at first ∙ ap (λ z. record { 0 = z }) none

    go : (given : Kind) → price_now (record order { kind = given }) 0 ≡ order.price
    go (kind.Iceberg peak delta) = first_peak order.side order.price peak.0 delta
    go _ = refl
