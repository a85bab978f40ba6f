-- What reading does to a source.
use Rattle.std.specs.Prelude.{◌≡◌, ℕ, ◌+◌, ◌<◌, ◌≤◌, List, [], length, ◌++◌, codes, Option, Bool, true, false}
use Rattle.std.specs.Io.KnownBytes.{Consumes, IsAtEnd, Keeps}
use Rattle.session_io.specs.declared.reading.ReadError.{ReadError}
use Rattle.session_io.specs.declared.reading.ReadError.TheVariants as stopped

-- the most bytes that a session may have
abbrev pub longest_session : ℕ
longest_session = 8388608

-- the most bytes that a record may have, a session with its journal
abbrev pub longest_record : ℕ
longest_record = 134217728

-- by a count of reads before and after, at most one more was made than so many
abbrev pub ReadsWithin : (most old new : ℕ) → Type 0
ReadsWithin most old new = new ≤ old + (most + 1)

-- one more read: what came stands behind the bytes before it, and where the input does not go on
-- the source is at its end
pub record ReadsMore (old new : Option (List ℕ)) (before after : List ℕ) (more : Bool) : Type 0 where
  pub came : List ℕ
  pub consumed : Consumes old new came
  pub grown : after ≡ before ++ came
  pub some : more ≡ true → 0 < length came
  pub none : more ≡ false → came ≡ []
  pub ended : more ≡ false → IsAtEnd new

-- what stopped the reading, in words
abbrev pub reading_text : ReadError → List ℕ
reading_text stopped.Fault = codes "a read failed"
reading_text stopped.TooLong = codes "the input is too long"
reading_text stopped.NoMemory = codes "no memory"

-- a read that gave nothing: a fault took nothing, and no read is too long
abbrev pub GivesNothing : Option (List ℕ) → Option (List ℕ) → ReadError → Type 0
GivesNothing old new stopped.Fault = Keeps old new
GivesNothing old new stopped.TooLong = ⊥
GivesNothing old new stopped.NoMemory = Unit {0}

-- what came before the reading stopped: more bytes than are allowed, or no more than that; where
-- memory was wanting nothing is said of it
abbrev pub Stops : (most : ℕ) → Option (List ℕ) → Option (List ℕ) → ReadError → Type 0
Stops most old new stopped.Fault = (input : List ℕ) × Consumes old new input × (length input ≤ most)
Stops most old new stopped.TooLong = (input : List ℕ) × Consumes old new input × (most < length input)
Stops most old new stopped.NoMemory = Unit {0}
