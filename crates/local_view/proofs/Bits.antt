-- Sets of zones as numbers: bit z stands for zone z.
use Rattle.std.proofs.Common.{◌≡◌, ◌∙◌, ℕ, zero, suc, ◌+◌, ◌-◌, ◌*◌, ◌/◌, ◌%◌, ◌^◌, ◌<◌, ◌==◌, ◌&&◌, ◌||◌, ◌⊎◌, Bool, true, false, cond, List, ◌∷◌, filter, inl, inr, length, max, min, not, refl, sym, ap, arith}
use Rattle.std.proofs.lemmas.Bool.{cases_lt, true≢false}
use Rattle.std.proofs.lemmas.Nat.Bits.{bit_at-lt, bit_at_above, bit_at-suc, bit_at-trailing_zeros, bit_at-zero, bit_at_and, bit_at_lowest, bit_at_not, bit_at_ones, bit_at_or, bit_at_set_same, same_from_bits}
use Rattle.std.proofs.lemmas.Nat.{and_le_l, le_or_l, ones_le_self}
use lib.Count.{ones_step}
use Rattle.std.specs.Int.{bit_at, trailing_zeros, w64}
use Rattle.std.specs.Int.RustNames.{bit_and, bit_or, count_ones}
use Rattle.std.specs.List.{range_with_len}
use Rattle.cut_proof.specs.ZoneSet.{holds}
use Rattle.laws_of_market.proofs.Restrict.{filter-same}

pub both_true : (a b : Bool) → (a && b) ≡ true → (a ≡ true) × (b ≡ true)
both_true true b e = (refl, e)
both_true false b e = absurd (true≢false (sym e))

pub one_true : (a b : Bool) → (a || b) ≡ true → (a ≡ true) ⊎ (b ≡ true)
one_true true b e = inl refl
one_true false b e = inr e

pub or_first : (a b : Bool) → a ≡ true → (a || b) ≡ true
or_first a b e = ap (λ c. c || b) e

pub or_second : (a b : Bool) → b ≡ true → (a || b) ≡ true
or_second true b e = refl
or_second false b e = e

pub holds-zero : (zone : ℕ) → holds 0 zone ≡ false
holds-zero zone = ap (λ n. n == 1) (bit_at-zero zone)

max-one : (a b : ℕ) → a < 2 → b < 2 → (max a b == 1) ≡ ((a == 1) || (b == 1))
max-one zero zero low small = refl
max-one zero (suc zero) low small = refl
max-one (suc zero) zero low small = refl
max-one (suc zero) (suc zero) low small = refl
max-one zero (suc (suc b)) low small = absurd (let no : ⊥ = omega (arith, small) in no)
max-one (suc zero) (suc (suc b)) low small = absurd (let no : ⊥ = omega (arith, small) in no)
max-one (suc (suc a)) b low small = absurd (let no : ⊥ = omega (arith, low) in no)

min-one : (a b : ℕ) → a < 2 → b < 2 → (min a b == 1) ≡ ((a == 1) && (b == 1))
min-one zero zero low small = refl
min-one zero (suc zero) low small = refl
min-one (suc zero) zero low small = refl
min-one (suc zero) (suc zero) low small = refl
min-one zero (suc (suc b)) low small = absurd (let no : ⊥ = omega (arith, small) in no)
min-one (suc zero) (suc (suc b)) low small = absurd (let no : ⊥ = omega (arith, small) in no)
min-one (suc (suc a)) b low small = absurd (let no : ⊥ = omega (arith, low) in no)

-- a zone has a bit in the one or in the other
pub holds-or : (a b zone : ℕ) → holds (bit_or a b) zone ≡ (holds a zone || holds b zone)
holds-or a b zone = ap (λ n. n == 1) (bit_at_or a b zone) ∙ max-one (bit_at a zone) (bit_at b zone) (bit_at-lt a zone) (bit_at-lt b zone)

-- or in both
pub holds-and : (a b zone : ℕ) → holds (bit_and a b) zone ≡ (holds a zone && holds b zone)
holds-and a b zone = ap (λ n. n == 1) (bit_at_and a b zone) ∙ min-one (bit_at a zone) (bit_at b zone) (bit_at-lt a zone) (bit_at-lt b zone)

-- the first zones
pub holds-first : (count zone : ℕ) → zone < count → holds (2 ^ count - 1) zone ≡ true
holds-first count zone less = ap (λ n. n == 1) (bit_at_ones count zone less)

-- what is held by the next numbers
shifted : (p : ℕ → Bool) (from later count : ℕ) → later ≡ suc from → length (filter p (range_with_len later count)) ≡ length (filter (λ k. p (suc k)) (range_with_len from count))
shifted p from later zero same = refl
shifted p from later (suc count) same =
    by (p later) (p (suc from)) (ap p same) (filter p (range_with_len (later + 1) count)) (filter (λ k. p (suc k)) (range_with_len (from + 1) count))
    (shifted p (from + 1) (later + 1) count (omega (arith, same)))
  where
    by : (a b : Bool) → a ≡ b → (xs ys : List ℕ) → length xs ≡ length ys → length (cond a (later ∷ xs) xs) ≡ length (cond b (from ∷ ys) ys)
    by true true e xs ys many = ap suc many
    by false false e xs ys many = many
    by true false e xs ys many = absurd (true≢false e)
    by false true e xs ys many = absurd (true≢false (sym e))

-- how many zones a set has
pub ones-counted : (n count : ℕ) → ((zone : ℕ) → holds n zone ≡ true → zone < count) → count_ones n ≡ length (filter (holds n) (range_with_len 0 count))
ones-counted n zero none = ap count_ones (same_from_bits n 0 (λ i. by i (bit_at n i) refl (bit_at-lt n i) ∙ sym (bit_at-zero i))) ∙ no_ones
  where
    no_ones : count_ones 0 ≡ 0
    no_ones = let few = ones_le_self 0 in omega (arith, few)

    by : (i b : ℕ) → bit_at n i ≡ b → b < 2 → bit_at n i ≡ 0
    by i zero e low = e
    by i (suc zero) e low = absurd (let no : i < 0 = none i (ap (λ m. m == 1) e) in omega (arith, no))
    by i (suc (suc b)) e low = absurd (let no : ⊥ = omega (arith, low) in no)
ones-counted n (suc count) within =
    ones_step n
    ∙ ap (λ m. n % 2 + m) (ones-counted (n / 2) count half ∙ sym (shifted (holds n) 0 (0 + 1) count (omega arith) ∙ ap length (filter-same (λ k. holds n (suc k)) (holds (n / 2)) (range_with_len 0 count) (λ k i. ap (λ m. m == 1) (bit_at-suc n k)))))
    ∙ first (n % 2) (let low : n % 2 < 2 = omega arith in low) (filter (holds n) (range_with_len (0 + 1) count))
    ∙ ap (λ m. length (cond (m == 1) (0 ∷ filter (holds n) (range_with_len (0 + 1) count)) (filter (holds n) (range_with_len (0 + 1) count)))) (sym (bit_at_lowest n))
  where
    half : (zone : ℕ) → holds (n / 2) zone ≡ true → zone < count
    half zone e = let less = within (suc zone) (ap (λ m. m == 1) (bit_at-suc n zone) ∙ e) in omega (arith, less)

    plain : (k : ℕ) → 0 + k ≡ k
    plain k = omega arith

    first : (bit : ℕ) → bit < 2 → (zones : List ℕ) → bit + length zones ≡ length (cond (bit == 1) (0 ∷ zones) zones)
    first zero low zones = plain (length zones)
    first (suc zero) low zones = omega arith
    first (suc (suc bit)) low zones = absurd (let no : ⊥ = omega (arith, low) in no)

-- the first zone of a set that is in another one too, and in no third
pub next_bit : (near asked : ℕ) → near < 2 ^ 64 → asked < 2 ^ 64 → (bit_and near (18446744073709551615 - asked) ≡ 0 → ⊥)
    → (trailing_zeros w64 (bit_and near (18446744073709551615 - asked)) < 64)
    × (holds near (trailing_zeros w64 (bit_and near (18446744073709551615 - asked))) ≡ true)
    × (holds asked (trailing_zeros w64 (bit_and near (18446744073709551615 - asked))) ≡ false)
next_bit near asked near_fits asked_fits some =
    let left = bit_and near (18446744073709551615 - asked) in
    let found = bit_at-trailing_zeros w64 left (positive left some) (let most = and_le_l near (18446744073709551615 - asked) in omega (arith, most, near_fits)) in
    let both = both_true (holds near (trailing_zeros w64 left)) (holds (18446744073709551615 - asked) (trailing_zeros w64 left)) (sym (holds-and near (18446744073709551615 - asked) (trailing_zeros w64 left)) ∙ ap (λ n. n == 1) found.1) in
    (found.0, both.0, other (bit_at asked (trailing_zeros w64 left)) (bit_at-lt asked (trailing_zeros w64 left)) (sym (ap (λ n. n == 1) (bit_at_not w64 asked (trailing_zeros w64 left) asked_fits found.0)) ∙ both.1))
  where
    positive : (n : ℕ) → (n ≡ 0 → ⊥) → 0 < n
    positive zero none = absurd (none refl)
    positive (suc n) none = omega arith

    other : (bit : ℕ) → bit < 2 → ((1 - bit) == 1) ≡ true → (bit == 1) ≡ false
    other zero low e = refl
    other (suc zero) low e = absurd (true≢false (sym e))
    other (suc (suc bit)) low e = absurd (let no : ⊥ = omega (arith, low) in no)

-- where none is left each is in the other set
pub none_left : (near asked zone : ℕ) → asked < 2 ^ 64 → zone < 64 → bit_and near (18446744073709551615 - asked) ≡ 0 → holds near zone ≡ true → holds asked zone ≡ true
none_left near asked zone fits small none is = by (bit_at asked zone) (bit_at-lt asked zone) (sym (ap (λ n. n == 1) (bit_at_not w64 asked zone fits small)) ∙ out)
  where
    out : holds (18446744073709551615 - asked) zone ≡ false
    out = sym (ap (λ b. b && holds (18446744073709551615 - asked) zone) is) ∙ sym (holds-and near (18446744073709551615 - asked) zone) ∙ ap (λ n. holds n zone) none ∙ holds-zero zone

    by : (bit : ℕ) → bit < 2 → ((1 - bit) == 1) ≡ false → (bit == 1) ≡ true
    by zero low e = absurd (true≢false e)
    by (suc zero) low e = refl
    by (suc (suc bit)) low e = absurd (let no : ⊥ = omega (arith, low) in no)

-- a set with one more is a greater number
pub more_set : (asked zone : ℕ) → zone < 64 → holds asked zone ≡ false → asked < bit_or asked (1 * 2 ^ zone % 2 ^ 64)
more_set asked zone small none = elim (cases_lt asked (bit_or asked (1 * 2 ^ zone % 2 ^ 64))) [
  | inl less ↦ less
  | inr least ↦
      let same : bit_or asked (1 * 2 ^ zone % 2 ^ 64) ≡ asked = (let most = le_or_l asked (1 * 2 ^ zone % 2 ^ 64) in omega (arith, most, least)) in
      absurd (true≢false (sym (ap (λ n. n == 1) (sym (ap (λ n. bit_at n zone) same) ∙ bit_at_set_same w64 asked zone small)) ∙ none))
]

pub smaller : (old new : ℕ) → old < new → old < 2 ^ 64 → 2 ^ 64 - new < 2 ^ 64 - old
smaller old new more fits = omega (arith, more, fits)

-- a zone is in what one set has beyond another one where it is in the first alone
pub holds-without : (a b zone : ℕ) → a < 2 ^ 64 → b < 2 ^ 64 → holds (bit_and a (18446744073709551615 - b)) zone ≡ (holds a zone && not (holds b zone))
holds-without a b zone a_fits b_fits = holds-and a (18446744073709551615 - b) zone ∙ elim (cases_lt zone 64) [
  | inl small ↦ ap (λ bit. holds a zone && bit) (ap (λ n. n == 1) (bit_at_not w64 b zone b_fits small) ∙ by (bit_at b zone) (bit_at-lt b zone))
  | inr past ↦
      let none : holds a zone ≡ false = ap (λ n. n == 1) (bit_at_above a 64 zone a_fits past) in
      ap (λ bit. bit && holds (18446744073709551615 - b) zone) none ∙ sym (ap (λ bit. bit && not (holds b zone)) none)
]
  where
    by : (bit : ℕ) → bit < 2 → (1 - bit == 1) ≡ not (bit == 1)
    by zero less = refl
    by (suc zero) less = refl
    by (suc (suc b)) less = absurd (omega (arith, less))
