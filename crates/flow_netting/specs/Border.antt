-- One border in one hour: its capacity in each quarter, and whether it is halted. The quarters of an
-- hour are numbered from 1 to 4.
use Rattle.std.specs.Prelude.{ℕ, ◌-◌, Bool, false, ◌&&◌, not, List, map, replicate, slice_index_or, if◌then◌else◌}
use Rattle.quarter_capacity.specs.Row.{Row, nothing_offered, remaining}
use Rattle.market_model.specs.Room.{least, lots_of}
use Rattle.flow_netting.specs.declared.quarter_set.QuarterSet.{QuarterSet}
use Rattle.flow_netting.specs.QuarterSet.{quarters_in}

-- the rows of the four quarters, in order, and whether trade over the border is halted
pub record Border : Type 0 where
  pub rows : List Row
  pub halted : Bool

-- a border on which nothing is offered, nothing flows and trade is not halted
abbrev pub idle_border : Border
idle_border = record { rows = replicate 4 nothing_offered; halted = false }

-- the row of a quarter
abbrev pub row_in : Border → (number : ℕ) → Row
row_in border number = slice_index_or border.rows (number - 1) nothing_offered

-- the room in a direction in one quarter: what remains, and none where the border is halted or the
-- hour is not open
abbrev pub quarter_room : (is_open : Bool) → Border → (forward : Bool) → (number : ℕ) → ℕ
quarter_room is_open border forward number =
    if is_open && not border.halted then lots_of (remaining (row_in border number) forward) else 0

-- the room in a direction over the quarters of a set: the least of theirs
abbrev pub set_room : (is_open : Bool) → Border → (forward : Bool) → QuarterSet → ℕ
set_room is_open border forward set = least (map (quarter_room is_open border forward) (quarters_in set))
