-- Sets of hours, by their bits.
use Rattle.std.proofs.Common.{◌≡◌, ◌≢◌, ◌∙◌, inl, inr, ℕ, ◌+◌, ◌-◌, ◌*◌, ◌/◌, ◌%◌, ◌^◌, ◌<◌, ◌≤◌, true, false, ◌||◌, nat_eq, refl, sym, ap, arith, min, bit_and, bit_or, w32, eq-eqb}
use Rattle.std.proofs.lemmas.Bool.{cases_eq, cases_lt, false_from_ne_true, le-leb, lt-leb, ne_eqb, true≢false}
use Rattle.std.proofs.lemmas.Nat.Bits.{bit_at-lt, bit_at-trailing_zeros, bit_at-zero, bit_at_above, bit_at_and, bit_at_mask_below, bit_at_mask_inside, bit_at_ones, bit_at_ones_above, bit_at_set_other, bit_at_set_same, ones_shl, ones_shr, same_from_bits}
use Rattle.std.specs.Int.{bit_at}
use Rattle.std.specs.Int.Count.{count_trailing_zeros}
use Rattle.order_kinds.specs.Period.{hours_from}
use Rattle.zone_graph.specs.Route.{has}
use Rattle.zone_graph.proofs.Membership.{IsIn-has, IsIn-range, from_range, has-IsIn}
use Rattle.market_model.specs.HourSet.{IsFirstOf, IsSetOf, has_hour}

-- an hour whose bit is not set is in no set
absent : (n hour : ℕ) → (1 ≤ hour → bit_at n (hour - 1) ≡ 0) → has_hour (record { 0 = n }) hour ≡ false
absent n hour off = elim (cases_lt hour 1) [
  | inl low ↦ rw (lt-leb 1 hour low) refl
  | inr high ↦ rw (le-leb 1 hour high, off high) refl
]

-- an hour whose bit is set is in the set
present : (n hour : ℕ) → 1 ≤ hour → bit_at n (hour - 1) ≡ 1 → has_hour (record { 0 = n }) hour ≡ true
present n hour high on = rw (le-leb 1 hour high, on) refl

-- an hour is in both of two sets, or in none, where its bits are equal
same_bit : (m n hour : ℕ) → (1 ≤ hour → bit_at m (hour - 1) ≡ bit_at n (hour - 1)) → has_hour (record { 0 = m }) hour ≡ has_hour (record { 0 = n }) hour
same_bit m n hour same = elim (cases_lt hour 1) [
  | inl low ↦ rw (lt-leb 1 hour low) refl
  | inr high ↦ rw (le-leb 1 hour high, same high) refl
]

-- no set has hour 0
pub none_below : (n hour : ℕ) → hour < 1 → has_hour (record { 0 = n }) hour ≡ false
none_below n hour low = absent n hour (λ some. absurd (omega arith))

-- no set of 32 bits has an hour past 32
pub none_above : (n hour : ℕ) → n < 2 ^ 32 → 32 < hour → has_hour (record { 0 = n }) hour ≡ false
none_above n hour fits high = absent n hour (λ low. bit_at_above n 32 (hour - 1) fits (omega arith))

-- no hour is in the set without bits
pub none_in_zero : (hour : ℕ) → has_hour (record { 0 = 0 }) hour ≡ false
none_in_zero hour = absent 0 hour (λ low. bit_at-zero (hour - 1))

-- a set that no hour is in has no bits
pub zero_from_none : (n : ℕ) → ((hour : ℕ) → has_hour (record { 0 = n }) hour ≡ false) → n ≡ 0
zero_from_none n none = same_from_bits n 0 (λ i. unset i ∙ sym (bit_at-zero i))
  where
    unset : (i : ℕ) → bit_at n i ≡ 0
    unset i = elim (cases_eq (bit_at n i) 1) [
      | inl on ↦
          let shifted : i + 1 - 1 ≡ i = omega arith in
          let same : bit_at n (i + 1 - 1) ≡ 1 = rw shifted on in
          absurd (true≢false (sym (present n (i + 1) (omega arith) same) ∙ none (i + 1)))
      | inr off ↦ let few = bit_at-lt n i in omega arith
    ]

-- the hour of the lowest bit that is set is the first
pub lowest_is_first : (n : ℕ) → n ≢ 0 → n < 2 ^ 32 → IsFirstOf (record { 0 = n }) (count_trailing_zeros 32 n + 1)
lowest_is_first n some fits =
    let lowest = bit_at-trailing_zeros w32 n (omega arith) fits in
    let place : ℕ = count_trailing_zeros 32 n in
    let shifted : place + 1 - 1 ≡ place = omega arith in
    let on : bit_at n (place + 1 - 1) ≡ 1 = rw shifted lowest.1 in
    record {
      within = present n (place + 1) (omega arith) on;
      least = λ other h. elim (cases_lt other (place + 1)) [
        | inl low ↦ absurd (true≢false (sym h ∙ absent n other (λ high. lowest.2 (other - 1) (omega arith))))
        | inr high ↦ high
      ];
    }

-- the set with an hour more
pub hour_added : (n hour other : ℕ) → 1 ≤ hour → hour ≤ 32
    → has_hour (record { 0 = bit_or n (1 * 2 ^ (hour - 1) % 2 ^ 32) }) other ≡ (nat_eq hour other || has_hour (record { 0 = n }) other)
hour_added n hour other low high = elim (cases_eq hour other) [
  | inl same ↦
      let set : bit_at (bit_or n (1 * 2 ^ (hour - 1) % 2 ^ 32)) (hour - 1) ≡ 1 = bit_at_set_same w32 n (hour - 1) (omega arith) in
      let on : bit_at (bit_or n (1 * 2 ^ (hour - 1) % 2 ^ 32)) (other - 1) ≡ 1 = ap (λ k. bit_at (bit_or n (1 * 2 ^ (hour - 1) % 2 ^ 32)) (k - 1)) (sym same) ∙ set in
      rw (eq-eqb hour other same) (present (bit_or n (1 * 2 ^ (hour - 1) % 2 ^ 32)) other (omega arith) on)
  | inr apart ↦ rw (ne_eqb hour other apart)
      (same_bit (bit_or n (1 * 2 ^ (hour - 1) % 2 ^ 32)) n other (λ some. bit_at_set_other w32 n (hour - 1) (omega arith) (other - 1) (omega arith)))
]

-- an hour from the first to the last is one of theirs
in_hours : (first last hour : ℕ) → first ≤ hour → hour ≤ last → has hour (hours_from first last) ≡ true
in_hours first last hour low high = has-IsIn hour (hours_from first last) (IsIn-range hour first (last + 1 - first) low (omega arith))

-- and no other is
not_in_hours : (first last hour : ℕ) → (first ≤ hour → last < hour) → has hour (hours_from first last) ≡ false
not_in_hours first last hour out = false_from_ne_true (has hour (hours_from first last)) (λ e.
    let within = from_range hour first (last + 1 - first) (IsIn-has hour (hours_from first last) e) in
    let above : last < hour = out within.0 in
    omega (arith, within.0, within.1))

-- the bits below the last and those from the first on
abbrev between : (first last : ℕ) → ℕ
between first last = bit_and ((2 ^ 32 - 1) / 2 ^ (32 - last)) ((2 ^ 32 - 1) * 2 ^ (first - 1) % 2 ^ 32)

-- one of them is set where it is in both masks
bit_at-between : (first last i : ℕ) → 1 ≤ first → first ≤ last → last ≤ 32
    → bit_at (between first last) i ≡ min (bit_at (2 ^ last - 1) i) (bit_at (2 ^ 32 - 2 ^ (first - 1)) i)
bit_at-between first last i low order high =
    let exponent : 32 - (32 - last) ≡ last = omega arith in
    let through : (2 ^ 32 - 1) / 2 ^ (32 - last) ≡ 2 ^ last - 1 = ones_shr 32 (32 - last) (omega arith) ∙ ap (λ k. 2 ^ k - 1) exponent in
    let from : (2 ^ 32 - 1) * 2 ^ (first - 1) % 2 ^ 32 ≡ 2 ^ 32 - 2 ^ (first - 1) = ones_shl 32 (first - 1) (omega arith) in
    bit_at_and ((2 ^ 32 - 1) / 2 ^ (32 - last)) ((2 ^ 32 - 1) * 2 ^ (first - 1) % 2 ^ 32) i
    ∙ (ap (λ mask. min (bit_at mask i) (bit_at ((2 ^ 32 - 1) * 2 ^ (first - 1) % 2 ^ 32) i)) through
    ∙ ap (λ mask. min (bit_at (2 ^ last - 1) i) (bit_at mask i)) from)

-- they are those of the hours from the first to the last
pub hours_between : (first last : ℕ) → 1 ≤ first → first ≤ last → last ≤ 32 → IsSetOf (hours_from first last) (record { 0 = between first last })
hours_between first last low order high hour =
    let both = bit_at-between first last (hour - 1) low order high in
    elim (cases_lt hour first) [
      | inl early ↦
          absent (between first last) hour (λ some. let unset = bit_at_mask_below (first - 1) 32 (hour - 1) (omega arith) in omega (arith, both, unset))
          ∙ sym (not_in_hours first last hour (λ late. omega arith))
      | inr some ↦ elim (cases_lt last hour) [
        | inl late ↦
            absent (between first last) hour (λ positive. let unset = bit_at_ones_above last (hour - 1) (omega arith) in omega (arith, both, unset))
            ∙ sym (not_in_hours first last hour (λ start. late))
        | inr within ↦
            let below = bit_at_ones last (hour - 1) (omega arith) in
            let above = bit_at_mask_inside (first - 1) 32 (hour - 1) (omega arith) (omega arith) in
            present (between first last) hour (omega arith) (omega (arith, both, below, above))
            ∙ sym (in_hours first last hour some within)
      ]
    ]
