-- Sets of the parts of an hour.
use Rattle.std.specs.Prelude.{ℕ, Bool, false, slice_index_or}
use Rattle.sweep_core.specs.declared.part_set.PartSet.{PartSet}

-- a part is in a set
abbrev pub has_part : PartSet → (part : ℕ) → Bool
has_part set part = slice_index_or set.parts part false
