-- A text that is to be written.
use Rattle.std.specs.Prelude.{ℕ, List, Option}
use Rattle.std.specs.Io.KnownBytes.{Appends}
use Rattle.session_io.specs.Writing.{Wrote}
use Rattle.session_io.specs.declared.status.Status.{Status}
use Rattle.session_io.specs.declared.status.Status.TheVariants as status

-- a text was to be written: the whole of it was, or a first part; the run ends in no other way
abbrev pub Writes : (text : List ℕ) → Status → (old new : Option (List ℕ)) → Type 0
Writes text status.Done old new = Appends old new text
Writes text status.WriteFault old new = (rest : List ℕ) × Wrote old new text rest
Writes text status.NoMemory old new = (rest : List ℕ) × Wrote old new text rest
Writes text _ old new = ⊥
