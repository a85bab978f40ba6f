-- The peaks of an iceberg that agrees with itself.
use Rattle.std.proofs.Common.{◌≡◌, ℕ, suc, ◌+◌, ◌-◌, ◌*◌, ◌/◌, ◌<◌, ◌≤◌, ◌≤ℤ◌, neg_ℤ, pos, Bool, true, false, [], ◌∷◌, ◌++◌, sum_by, ap, arith, w32, FitsSigned, int_le}
use Rattle.std.specs.Prelude.{IsTrue}
use Rattle.std.proofs.Math.Nat.{div-mul-le_self, mul-le-mul_left}
use Rattle.std.proofs.lemmas.Bool.{and_parts}
use Rattle.std.proofs.lemmas.List.Sums.{sum_by-append, sum_by-cons, sum_by-le-sum_by}
use Rattle.std.specs.List.{range_with_len}
use Rattle.order_kinds.specs.declared.order.Order.{Order}
use Rattle.order_kinds.specs.declared.price.Price.{Price}
use Rattle.order_kinds.specs.Order.{peak_count, peak_number, peak_price}
use Rattle.order_kinds.specs.Price.{price_in_range}
use Rattle.order_kinds.specs.Side.{crosses}
use Rattle.iceberg_peak.specs.Peak.{peak_left}
use Rattle.iceberg_peak.proofs.PeakLemmas.{number-rises, sum_by-peak_left}
use Rattle.zone_graph.specs.Pour.{lots_if}
use Rattle.zone_graph.proofs.Membership.{from_range}
use Rattle.contract_book.specs.declared.resting.Ice.{Ice}
use Rattle.contract_book.specs.declared.resting.Resting.{Resting}
use Rattle.contract_book.specs.Resting.{IsIceberg}
use Rattle.cut_proof.proofs.ArcSums.{range_more, sum_nothing}
use Rattle.desk_entering.specs.Crossing.{crossing_peak, crossing_peaks}

lots_if-most : (test : Bool) (lots : ℕ) → lots_if test lots ≤ lots
lots_if-most true lots = omega arith
lots_if-most false lots = omega arith

turned : (a b : ℕ) → a * b ≡ b * a
turned a b = grind arith

-- an allowed price fits
pub price-fits : (price : Price) → IsTrue (price_in_range price) → FitsSigned w32 price.0
price-fits price allowed =
    let both = and_parts (int_le (neg_ℤ (pos 999900)) price.0) (int_le price.0 (pos 999900)) allowed in
    let low : neg_ℤ (pos 999900) ≤ℤ price.0 = grind (arith, both.0) in
    let high : price.0 ≤ℤ pos 999900 = grind (arith, both.1) in
    grind (arith, low, high)

-- one peak more
pub peaks-more : (taker : Order) (order : Resting) (ice : Ice) (number : ℕ)
    → crossing_peaks taker order ice (number + 1) ≡ crossing_peaks taker order ice number + crossing_peak taker order ice number
unfolding crossing_peaks
peaks-more taker order ice number =
    let f : ℕ → ℕ = crossing_peak taker order ice in
    let one : number + 1 ≡ suc number = omega arith in
    let start : 0 + number ≡ number = omega arith in
    omega (
      arith,
      ap (λ n. sum_by f (range_with_len 0 n)) one,
      ap (sum_by f) (range_more 0 number),
      ap (λ n. sum_by f (range_with_len 0 number ++ n ∷ [])) start,
      sum_by-append f (range_with_len 0 number) (number ∷ []),
      sum_by-cons f number [],
    )

module _ (order : Resting) (ice : Ice) (iceberg : IsIceberg order ice) (some : 0 < order.left) where
  -- what is filled and what is left is all of it
  pub whole : ice.filled + order.left ≡ ice.total
  whole = omega (arith, iceberg.left_is, some)

  -- a peak starts before the end
  pub start-within : (number : ℕ) → number < peak_count (ice.filled + order.left) ice.peak → ice.peak * number ≤ ice.filled + order.left - 1
  start-within number within =
      let last : number ≤ (ice.filled + order.left - 1) / ice.peak = omega (arith, within) in
      let all = mul-le-mul_left ice.peak last in
      let parts = div-mul-le_self (ice.filled + order.left - 1) ice.peak in
      omega (arith, all, parts, turned ice.peak ((ice.filled + order.left - 1) / ice.peak))

  -- the showing peak is one of them
  pub showing-within : peak_number ice.peak ice.filled < peak_count (ice.filled + order.left) ice.peak
  showing-within =
      let rises = number-rises ice.peak ice.filled (ice.filled + order.left - 1) iceberg.some (omega (arith, some)) in
      omega (arith, rises)

  -- the price of a peak that is left fits
  pub price-within : (number : ℕ) → peak_number ice.peak ice.filled ≤ number → number < peak_count (ice.filled + order.left) ice.peak
      → FitsSigned w32 (peak_price order.side ice.price ice.delta number).0
  price-within number low within =
      let last : number ≤ (ice.total - 1) / ice.peak = let same = ap (λ n. (n - 1) / ice.peak) whole in omega (arith, within, same) in
      price-fits (peak_price order.side ice.price ice.delta number) (iceberg.allowed number low last)

  -- what crosses of some peaks is no more than what is left
  pub peaks-most : (taker : Order) (count : ℕ) → crossing_peaks taker order ice count ≤ order.left
  unfolding crossing_peaks
  peaks-most taker count =
      let less = sum_by-le-sum_by (crossing_peak taker order ice) (peak_left (ice.filled + order.left) ice.peak ice.filled) (range_with_len 0 count)
      (λ number. lots_if-most (crosses taker.side taker.price (peak_price order.side ice.price ice.delta number)) (peak_left (ice.filled + order.left) ice.peak ice.filled number)) in
      let all = sum_by-peak_left (ice.filled + order.left) ice.peak ice.filled count (omega arith) in
      omega (arith, less, all)

  -- nothing is left of a peak before the one that shows
  none-before : (number : ℕ) → number < peak_number ice.peak ice.filled → peak_left (ice.filled + order.left) ice.peak ice.filled number ≡ 0
  none-before number before =
      let up : number + 1 ≤ ice.filled / ice.peak = omega (arith, before) in
      let all = mul-le-mul_left ice.peak up in
      let parts = div-mul-le_self ice.filled ice.peak in
      omega (arith, all, parts, turned ice.peak (ice.filled / ice.peak))

  -- so none of these crosses
  pub none-crosses : (taker : Order) → crossing_peaks taker order ice (peak_number ice.peak ice.filled) ≡ 0
  unfolding crossing_peaks
  none-crosses taker = sum_nothing (crossing_peak taker order ice) (range_with_len 0 (peak_number ice.peak ice.filled)) (λ number i.
      let there = from_range number 0 (peak_number ice.peak ice.filled) i in
      let none = none-before number (omega (arith, there.1)) in
      let most = lots_if-most (crosses taker.side taker.price (peak_price order.side ice.price ice.delta number)) (peak_left (ice.filled + order.left) ice.peak ice.filled number) in
      omega (arith, none, most))
