-- An input that is read to its end.
use Rattle.std.specs.Prelude.{◌≡◌, ℕ, List, Option}
use Rattle.session_io.specs.declared.status.Status.{Status}
use Rattle.session_io.specs.declared.status.Status.TheVariants as status
use Rattle.session_io.specs.Sources.{ReadsUpTo}

-- bytes are these
abbrev pub Is : (these bytes : List ℕ) → Type 0
Is these bytes = bytes ≡ these

-- the source was not read to its end, and the run ends so
abbrev pub ReadsNone : (most : ℕ) (old new : Option (List ℕ)) → Status → Type 0
ReadsNone most old new status.ReadFault = ReadsUpTo most old new status.ReadFault
ReadsNone most old new status.TooLong = ReadsUpTo most old new status.TooLong
ReadsNone most old new status.NoMemory = Unit {0}
ReadsNone most old new _ = ⊥
