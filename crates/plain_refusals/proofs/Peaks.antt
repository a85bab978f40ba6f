-- The peaks of an iceberg with sound numbers.
use Rattle.std.proofs.Common.{◌≡◌, ℕ, suc, ◌+◌, ◌-◌, ◌*◌, ◌/◌, ◌<◌, ◌≤◌, [], ◌∷◌, ◌++◌, sum_by, ap, arith, w32, FitsSigned}
use Rattle.std.proofs.Math.Nat.{div-mul-le_self, mul-le-mul_left}
use Rattle.std.proofs.lemmas.List.Sums.{sum_by-append, sum_by-cons}
use Rattle.std.proofs.lemmas.Nat.{le-div}
use Rattle.std.specs.List.{range_with_len}
use Rattle.order_kinds.specs.declared.order.Kind.TheVariants as kind
use Rattle.order_kinds.specs.declared.order.Order.{Order}
use Rattle.order_kinds.specs.declared.price.Lots.{Lots}
use Rattle.order_kinds.specs.Order.{peak_count, peak_price}
use Rattle.cut_proof.proofs.ArcSums.{range_more}
use Rattle.plain_orders.specs.Histories.{HasSoundNumbers}
use Rattle.plain_orders.proofs.Changes.{change-most, peaks-sound, price-fits}
use Rattle.plain_refusals.specs.Crossing.{crossing_peak, crossing_peaks}

module _ (order : Order) (peak : Lots) (delta : ℕ) (sound : HasSoundNumbers order) (is : order.kind ≡ kind.Iceberg peak delta) where
  -- the lots before a peak are no more than all
  before-most : (number : ℕ) → number < peak_count order.quantity.0 peak.0 → peak.0 * number ≤ order.quantity.0
  before-most number within =
      let last : number ≤ (order.quantity.0 - 1) / peak.0 = omega arith in
      let some = (peaks-sound order peak delta sound is).some in
      let all = mul-le-mul_left peak.0 last in
      let parts = div-mul-le_self (order.quantity.0 - 1) peak.0 in
      omega (arith, all, parts, turned peak.0 ((order.quantity.0 - 1) / peak.0))
    where
      turned : (a b : ℕ) → a * b ≡ b * a
      turned a b = grind arith

  -- how far the price of a peak is from that of the first
  change-within : (number : ℕ) → number < peak_count order.quantity.0 peak.0 → delta * number ≤ 3999600
  change-within number within =
      let before = before-most number within in
      let some = (peaks-sound order peak delta sound is).some in
      let reached : number ≤ peak.0 * number / peak.0 = le-div number (peak.0 * number) peak.0 some (swapped number peak.0) in
      let grows = mul-le-mul_left delta reached in
      let most = change-most order peak delta (peak.0 * number) sound is before in
      omega (arith, grows, most)
    where
      swapped : (a b : ℕ) → a * b ≤ b * a
      swapped a b = grind arith

  -- so its price fits
  pub price-within : (number : ℕ) → number < peak_count order.quantity.0 peak.0 → FitsSigned w32 (peak_price order.side order.price delta number).0
  price-within number within = price-fits order.side order.price delta number (peaks-sound order peak delta sound is).price (change-within number within)

-- a part of an order has no more peaks than all of it
pub part-fewer : (part total peak : ℕ) → 1 ≤ peak → part ≤ total → peak_count part peak ≤ peak_count total peak
part-fewer part total peak some less =
    let own = div-mul-le_self (part - 1) peak in
    let fewer : (part - 1) / peak ≤ (total - 1) / peak = le-div ((part - 1) / peak) (total - 1) peak some (omega (arith, own, less)) in
    omega (arith, fewer)

-- one peak more
pub peaks-more : (taker order : Order) (peak delta filled left number : ℕ)
    → crossing_peaks taker order peak delta filled left (number + 1) ≡ crossing_peaks taker order peak delta filled left number + crossing_peak taker order peak delta filled left number
unfolding crossing_peaks
peaks-more taker order peak delta filled left number =
    let f : ℕ → ℕ = crossing_peak taker order peak delta filled left in
    let one : number + 1 ≡ suc number = omega arith in
    let start : 0 + number ≡ number = omega arith in
    omega (
      arith,
      ap (λ n. sum_by f (range_with_len 0 n)) one,
      ap (sum_by f) (range_more 0 number),
      ap (λ n. sum_by f (range_with_len 0 number ++ n ∷ [])) start,
      sum_by-append f (range_with_len 0 number) (number ∷ []),
      sum_by-cons f number [],
    )
