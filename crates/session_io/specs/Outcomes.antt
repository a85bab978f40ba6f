-- What a run has written, by how it ends.
use Rattle.std.specs.Prelude.{◌≡◌, ℕ, List, [], ◌++◌, ◌⊎◌, Option}
use Rattle.std.specs.Io.KnownBytes.{Appends}
use Rattle.session_io.specs.declared.status.Status.{Status}
use Rattle.session_io.specs.declared.status.Status.TheVariants as status

-- a text that is the one asked for was written
pub record IsWritten (IsAsked : List ℕ → Type 0) (old new : Option (List ℕ)) : Type 0 where
  pub text : List ℕ
  pub asked : IsAsked text
  pub appended : Appends old new text

-- a first part of such a text was written
pub record IsWrittenInPart (IsAsked : List ℕ → Type 0) (old new : Option (List ℕ)) : Type 0 where
  pub front : List ℕ
  pub rest : List ℕ
  pub asked : IsAsked (front ++ rest)
  pub appended : Appends old new front

-- a run that reads its input to its end, and is asked to write such a text: it wrote the whole of one, or a first part;
-- where memory was wanting it wrote a first part or nothing; a line is told as bad, and an entry as illegal, only where
-- the input has it
abbrev pub Answers : (IsAsked : List ℕ → Type 0) (IsBad IsIllegal : ℕ → Type 0) → Status → (old new : Option (List ℕ)) → Type 0
Answers IsAsked IsBad IsIllegal status.Done old new = IsWritten IsAsked old new
Answers IsAsked IsBad IsIllegal status.WriteFault old new = IsWrittenInPart IsAsked old new
Answers IsAsked IsBad IsIllegal status.NoMemory old new = Appends old new [] ⊎ IsWrittenInPart IsAsked old new
Answers IsAsked IsBad IsIllegal (status.BadSession line) old new = IsBad line
Answers IsAsked IsBad IsIllegal (status.Illegal entry) old new = IsIllegal entry
Answers IsAsked IsBad IsIllegal status.DiskFault old new = ⊥
Answers IsAsked IsBad IsIllegal (status.BadImage place) old new = ⊥
Answers IsAsked IsBad IsIllegal _ old new = Unit {0}

-- the same of a run over a disk, a call of which may fail; its image is told as damaged only where it is
abbrev pub DiskAnswers : (IsAsked : List ℕ → Type 0) (IsBad IsIllegal IsDamaged : ℕ → Type 0) → Status → (old new : Option (List ℕ)) → Type 0
DiskAnswers IsAsked IsBad IsIllegal IsDamaged status.DiskFault old new = Unit {0}
DiskAnswers IsAsked IsBad IsIllegal IsDamaged (status.BadImage place) old new = IsDamaged place
DiskAnswers IsAsked IsBad IsIllegal IsDamaged end old new = Answers IsAsked IsBad IsIllegal end old new

-- a run that does what it is asked for, or for which memory was wanting
abbrev pub EndsWell : Status → Type 0
EndsWell end = (end ≡ status.Done) ⊎ (end ≡ status.NoMemory)
