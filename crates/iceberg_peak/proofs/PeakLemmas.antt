-- The peaks of an iceberg: what shows of them, how fills go on from one to the next, and what is
-- left of all of them.
use Rattle.std.proofs.Common.{◌≡◌, ℕ, zero, suc, ◌+◌, ◌-◌, ◌*◌, ◌/◌, ◌%◌, ◌<◌, ◌≤◌, min, max, [], ◌∷◌, ◌++◌, refl, ap, ◌∙◌, inl, inr, add-one, add-zero, zero-add, arith}
use Rattle.std.proofs.Math.Nat.{div-add-mod, div-mul-le_self}
use Rattle.std.proofs.lemmas.Nat.{le-div, mod_below}
use Rattle.std.proofs.lemmas.Bool.{cases_lt}
use Rattle.std.proofs.lemmas.List.Sums.{sum_by_push}
use Rattle.std.specs.List.{sum_by, range_with_len}
use Rattle.order_kinds.specs.Order.{peak_number, peak_count}
use Rattle.iceberg_peak.specs.Peak.{peak_shown, peak_left}
use Rattle.iceberg_peak.specs.PeakLaws.{ShowsSomething, FillsStepTheNumber, NextPeakComes, PeaksHoldWhatIsLeft}

-- what shows is at least one lot
pub peak_shown-pos : (peak filled left : ℕ) → 1 ≤ peak → 1 ≤ left → 1 ≤ peak_shown peak filled left
peak_shown-pos peak filled left some more = omega (arith, mod_below filled peak some)

-- at most what is left of the order, and at most what is left of the peak
pub peak_shown-le_left : (peak filled left : ℕ) → peak_shown peak filled left ≤ left
peak_shown-le_left peak filled left = omega arith

pub peak_shown-le_peak : (peak filled left : ℕ) → peak_shown peak filled left ≤ peak
peak_shown-le_peak peak filled left = omega arith

-- more lots fill no fewer peaks
pub number-rises : (peak a b : ℕ) → 1 ≤ peak → a ≤ b → peak_number peak a ≤ peak_number peak b
number-rises peak a b some more = le-div (a / peak) b peak some (let most = div-mul-le_self a peak in omega (arith, most))

-- a quotient and its rest are the only ones
quotient_is : (n peak number rest : ℕ) → n ≡ peak * number + rest → rest < peak → (n / peak ≡ number) × (n % peak ≡ rest)
quotient_is n peak number rest e below = grind arith

-- a fill that leaves something of the peak stays on it
pub peak_number-stays : (peak filled lots : ℕ) → lots < peak - filled % peak → peak_number peak (filled + lots) ≡ peak_number peak filled
peak_number-stays peak filled lots fewer =
    (quotient_is (filled + lots) peak (filled / peak) (filled % peak + lots) (omega (arith, div-add-mod filled peak)) (omega arith)).0

-- and what is filled is then no multiple of the peak
pub filled-within_peak : (peak filled lots : ℕ) → lots < peak - filled % peak → (filled + lots) % peak ≡ filled % peak + lots
filled-within_peak peak filled lots fewer =
    (quotient_is (filled + lots) peak (filled / peak) (filled % peak + lots) (omega (arith, div-add-mod filled peak)) (omega arith)).1

-- a fill of what is left of the peak goes on to the next one
pub peak_number-next : (peak filled lots : ℕ) → 1 ≤ peak → lots ≡ peak - filled % peak → peak_number peak (filled + lots) ≡ peak_number peak filled + 1
peak_number-next peak filled lots some all =
    let below = mod_below filled peak some in
    (quotient_is (filled + lots) peak (filled / peak + 1) 0 (omega (arith, div-add-mod filled peak)) some).0

-- and what is filled is then a multiple of the peak
pub filled-whole_peak : (peak filled lots : ℕ) → 1 ≤ peak → lots ≡ peak - filled % peak → (filled + lots) % peak ≡ 0
filled-whole_peak peak filled lots some all =
    let below = mod_below filled peak some in
    (quotient_is (filled + lots) peak (filled / peak + 1) 0 (omega (arith, div-add-mod filled peak)) some).1

-- an open iceberg shows something, and not more than is left of it or than a peak has
pub shows_something : ShowsSomething
shows_something = λ peak filled left some more.
    (peak_shown-pos peak filled left some more, peak_shown-le_left peak filled left, peak_shown-le_peak peak filled left)

-- a fill of some of what shows steps the number exactly where it ends the peak
pub fills_step_the_number : FillsStepTheNumber
fills_step_the_number = λ peak filled left lots some one most.
    let below = mod_below filled peak some in
    elim (cases_lt lots (peak - filled % peak)) [
      | inl fewer ↦
          let stays = peak_number-stays peak filled lots fewer in
          let within = filled-within_peak peak filled lots fewer in
          ((λ up. absurd (omega arith), λ whole. absurd (omega arith)), λ part. stays)
      | inr all ↦
          let next = peak_number-next peak filled lots some (omega arith) in
          let whole = filled-whole_peak peak filled lots some (omega arith) in
          ((λ up. whole, λ multiple. next), λ part. absurd (part whole))
    ]

-- after a fill of all that shows nothing is left, or the next peak shows
pub next_peak_comes : NextPeakComes
next_peak_comes = λ peak filled left some.
    elim (cases_lt (peak - filled % peak) left) [
      | inl more ↦ inr (peak_number-next peak filled (peak_shown peak filled left) some (omega arith))
      | inr last ↦ inl (omega arith)
    ]

-- one more number at the end of a range
range_more : (a n : ℕ) → range_with_len a (suc n) ≡ range_with_len a n ++ (a + n) ∷ []
range_more a zero = rw add-zero refl
range_more a (suc n) =
    let e : a + 1 + n ≡ a + suc n = omega arith in
    ap (λ xs. a ∷ xs) (range_more (a + 1) n ∙ ap (λ x. range_with_len (a + 1) n ++ x ∷ []) e)

-- one more peak, where the next one starts at this place
one_peak_more : (total peak filled start next : ℕ) → next ≡ start + peak → filled ≤ total
    → (min start total - filled) + (min next total - max start filled) ≡ min next total - filled
one_peak_more total peak filled start next e within = omega arith

-- what is left of the first peaks
pub sum_by-peak_left : (total peak filled count : ℕ) → filled ≤ total
    → sum_by (peak_left total peak filled) (range_with_len 0 count) ≡ min (peak * count) total - filled
sum_by-peak_left total peak filled zero within = omega arith
sum_by-peak_left total peak filled (suc count) within =
    let before = sum_by-peak_left total peak filled count within in
    rw (range_more 0 count) (sum_by_push (peak_left total peak filled) (range_with_len 0 count) (0 + count)
    ∙ rw (zero-add count, before, add-one) (one_peak_more total peak filled (peak * count) (peak * suc count) (omega arith) within))

-- the peaks have room for the whole order
pub peak_count-covers : (total peak : ℕ) → 1 ≤ peak → total ≤ peak * peak_count total peak
peak_count-covers total peak some = omega (arith, mod_below (total - 1) peak some, div-add-mod (total - 1) peak)

-- what is left of all peaks is what is left of the order
pub peaks_hold_what_is_left : PeaksHoldWhatIsLeft
peaks_hold_what_is_left = λ total peak filled some within.
    let covered = peak_count-covers total peak some in
    sum_by-peak_left total peak filled (peak_count total peak) within ∙ omega arith
