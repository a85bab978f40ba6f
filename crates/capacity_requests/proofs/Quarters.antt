-- The first answer of the quarters of a set, one quarter after the other.
use Rattle.std.proofs.Common.{◌≡◌, ℕ, suc, ◌+◌, ◌-◌, ◌≤◌, true, false, ◌∷◌, filter, Option, Some, None, refl, arith}
use Rattle.std.specs.List.{range_with_len}
use Rattle.market_model.specs.Sweep.{first_answer}
use Rattle.flow_netting.specs.declared.quarter_set.QuarterSet.{QuarterSet}
use Rattle.flow_netting.specs.QuarterSet.{has}

-- the first answer of those quarters of a set that do not come before a number
abbrev pub from_number : {Y : Type 0} → (ℕ → Option Y) → QuarterSet → (number : ℕ) → Option Y
from_number ask set number = first_answer ask (filter (has set) (range_with_len number (5 - number)))

-- a number and those after it
onward : (number : ℕ) → number ≤ 4 → range_with_len number (5 - number) ≡ number ∷ range_with_len (number + 1) (5 - (number + 1))
onward number most =
    let count : 5 - number ≡ suc (5 - (number + 1)) = omega (arith, most) in
    rw count refl

-- a quarter that is in the set and answers is the first
pub answered : {Y : Type 0} (ask : ℕ → Option Y) (set : QuarterSet) (number : ℕ) (answer : Y) → number ≤ 4 → has set number ≡ true
    → ask number ≡ Some answer → from_number ask set number ≡ Some answer
answered ask set number answer most in_set is = rw (onward number most, in_set, is) refl

-- one that is not in it, or does not answer, is passed over
pub not_in_set : {Y : Type 0} (ask : ℕ → Option Y) (set : QuarterSet) (number : ℕ) → number ≤ 4 → has set number ≡ false
    → from_number ask set number ≡ from_number ask set (number + 1)
not_in_set ask set number most out = rw (onward number most, out) refl

pub no_answer : {Y : Type 0} (ask : ℕ → Option Y) (set : QuarterSet) (number : ℕ) → number ≤ 4 → has set number ≡ true
    → ask number ≡ None → from_number ask set number ≡ from_number ask set (number + 1)
no_answer ask set number most in_set is = rw (onward number most, in_set, is) refl
