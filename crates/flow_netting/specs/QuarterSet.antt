-- Sets of the quarters of an hour, which are numbered from 1 to 4.
use Rattle.std.specs.Prelude.{ℕ, ◌-◌, Bool, ◌==◌, List, [], ◌∷◌, filter}
use Rattle.std.specs.Int.{bit_at}
use Rattle.flow_netting.specs.declared.quarter_set.QuarterSet.{QuarterSet}

-- a quarter is in a set: the lowest bit stands for quarter 1, the next one for quarter 2, and so on
abbrev pub has : QuarterSet → (number : ℕ) → Bool
has set number = bit_at set.0 (number - 1) == 1

-- the quarters of a set, in order
abbrev pub quarters_in : QuarterSet → List ℕ
quarters_in set = filter (has set) (1 ∷ 2 ∷ 3 ∷ 4 ∷ [])
