-- Periods: which quarters a contract, a block and a range of quarters have. The hours of a delivery
-- day are numbered from 1, and the quarters of an hour from 1 to 4.
use Rattle.std.specs.Prelude.{ℕ, ◌+◌, ◌-◌, ◌≤◌, Bool, ◌==◌, ◌&&◌, ◌||◌, List, [], ◌∷◌, map, filter, flat_map, nat_le, nat_lt}
use Rattle.std.specs.List.{range_with_len}
use Rattle.order_kinds.specs.declared.contract.Contract.{Contract}
use Rattle.order_kinds.specs.declared.contract.Quarter.{Quarter}
use Rattle.order_kinds.specs.Contract.{covers, quarters}

-- the hours from the first to the last, in order: none where the last comes first
abbrev pub hours_from : (first last : ℕ) → List ℕ
hours_from first last = range_with_len first (last + 1 - first)

-- an hour is one of those from the first to the last
abbrev pub is_within : (first last hour : ℕ) → Bool
is_within first last hour = nat_le first hour && nat_le hour last

-- the quarter of this number of an hour
abbrev pub quarter_of : (hour number : ℕ) → Quarter
quarter_of hour number = record { hour = hour; number = number }

-- the quarters in which a contract delivers
abbrev pub contract_quarters : Contract → List Quarter
contract_quarters contract = map (quarter_of contract.hour) (quarters contract.part)

-- the four quarters of an hour
abbrev pub hour_quarters : ℕ → List Quarter
hour_quarters hour = map (quarter_of hour) (1 ∷ 2 ∷ 3 ∷ 4 ∷ [])

-- the quarters of a block: all of its hours
abbrev pub block_quarters : (first last : ℕ) → List Quarter
block_quarters first last = flat_map hour_quarters (hours_from first last)

-- a quarter is not after another: quarters stand by hour, then by number
abbrev pub is_not_after : Quarter → Quarter → Bool
is_not_after a b = nat_lt a.hour b.hour || ((a.hour == b.hour) && nat_le a.number b.number)

-- the quarters from the first to the last, in order
abbrev pub range_quarters : (first last : Quarter) → List Quarter
range_quarters first last =
    filter (λ quarter. is_not_after first quarter && is_not_after quarter last) (block_quarters first.hour last.hour)

-- a quarter is one of its hour's four
abbrev pub is_quarter : Quarter → Bool
is_quarter quarter = nat_le 1 quarter.number && nat_le quarter.number 4

-- something is true of the number of each quarter of an hour
abbrev pub EachQuarter : ((number : ℕ) → Type 0) → Type 0
EachQuarter P = (number : ℕ) → 1 ≤ number → number ≤ 4 → P number

-- a contract delivers in a quarter
abbrev pub contract_has : Contract → Quarter → Bool
contract_has contract quarter = (contract.hour == quarter.hour) && covers contract.part quarter.number

-- a block delivers in a quarter
abbrev pub block_has : (first last : ℕ) → Quarter → Bool
block_has first last quarter = is_within first last quarter.hour && is_quarter quarter

-- a quarter is one of those from the first to the last
abbrev pub range_has : (first last : Quarter) → Quarter → Bool
range_has first last quarter = is_quarter quarter && is_not_after first quarter && is_not_after quarter last
