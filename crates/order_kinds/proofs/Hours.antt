-- Hours and quarters one after the other.
use Rattle.std.proofs.Common.{◌≡◌, ℕ, suc, ◌+◌, ◌-◌, ◌<◌, ◌≤◌, [], ◌∷◌, ap, arith}
use Rattle.std.specs.List.{range_with_len}
use Rattle.order_kinds.specs.Period.{hours_from}

-- from an hour that is not after the last one the hours are it and those after it
pub hours-next : (hour last : ℕ) → hour ≤ last → hours_from hour last ≡ hour ∷ hours_from (hour + 1) last
hours-next hour last order =
    let more : last + 1 - hour ≡ suc (last + 1 - (hour + 1)) = omega arith in
    ap (range_with_len hour) more

-- none come after the last
pub hours-none : (hour last : ℕ) → last < hour → hours_from hour last ≡ []
hours-none hour last order =
    let none : last + 1 - hour ≡ 0 = omega arith in
    ap (range_with_len hour) none

-- the numbers of an hour's quarters from one on are it and those after it
pub quarters-onward : (number : ℕ) → number ≤ 4 → range_with_len number (5 - number) ≡ number ∷ range_with_len (number + 1) (5 - (number + 1))
quarters-onward number most =
    let more : 5 - number ≡ suc (5 - (number + 1)) = omega (arith, most) in
    ap (range_with_len number) more
