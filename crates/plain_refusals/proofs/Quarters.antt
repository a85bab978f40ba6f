-- The first answer of the quarters of an hour that pass a test, one quarter after the other.
use Rattle.std.proofs.Common.{◌≡◌, ℕ, ◌+◌, ◌-◌, ◌≤◌, Bool, true, false, filter, map, Option, Some, None, refl}
use Rattle.std.specs.List.{range_with_len}
use Rattle.order_kinds.specs.declared.contract.Quarter.{Quarter}
use Rattle.order_kinds.specs.Period.{quarter_of}
use Rattle.order_kinds.proofs.Hours.{quarters-onward}
use Rattle.market_model.specs.Sweep.{first_answer}
use Rattle.market_model.specs.declared.asked.Asked.{Asked}
use Rattle.market_model.specs.Asked.{first_in_hour, is_asked}

-- the first answer of those quarters that pass and do not come before a number
abbrev pub from_number : {Y : Type 0} → (Quarter → Option Y) → (Quarter → Bool) → (hour number : ℕ) → Option Y
from_number ask passes hour number = first_answer ask (filter passes (map (quarter_of hour) (range_with_len number (5 - number))))

-- a quarter that passes and answers is the first
pub answered : {Y : Type 0} (ask : Quarter → Option Y) (passes : Quarter → Bool) (hour number : ℕ) (answer : Y) → number ≤ 4
    → passes (quarter_of hour number) ≡ true → ask (quarter_of hour number) ≡ Some answer → from_number ask passes hour number ≡ Some answer
answered ask passes hour number answer most in_set is = rw (quarters-onward number most, in_set, is) refl

-- one that does not pass, or does not answer, is passed over
pub not_passed : {Y : Type 0} (ask : Quarter → Option Y) (passes : Quarter → Bool) (hour number : ℕ) → number ≤ 4
    → passes (quarter_of hour number) ≡ false → from_number ask passes hour number ≡ from_number ask passes hour (number + 1)
not_passed ask passes hour number most out = rw (quarters-onward number most, out) refl

pub no_answer : {Y : Type 0} (ask : Quarter → Option Y) (passes : Quarter → Bool) (hour number : ℕ) → number ≤ 4
    → passes (quarter_of hour number) ≡ true → ask (quarter_of hour number) ≡ None → from_number ask passes hour number ≡ from_number ask passes hour (number + 1)
no_answer ask passes hour number most in_set is = rw (quarters-onward number most, in_set, is) refl

-- all of them come no earlier than the first
pub from_first : {Y : Type 0} (ask : Quarter → Option Y) (asked : Asked) (hour : ℕ) → from_number ask (is_asked asked) hour 1 ≡ first_in_hour ask asked hour
unfolding first_in_hour
from_first ask asked hour = refl
