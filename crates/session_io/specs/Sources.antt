-- What a run does to its source, by how it ends.
use Rattle.std.specs.Prelude.{◌≡◌, ◌≢◌, ℕ, ◌<◌, ◌≤◌, List, length, Option, Some, IsTrue, true}
use Rattle.std.specs.Io.KnownBytes.{Consumes, IsAtEnd}
use Rattle.session_io.specs.declared.status.Status.{Status}
use Rattle.session_io.specs.declared.status.Status.TheVariants as status
use Rattle.session_io.specs.Status.{reads_to_end, stops_reading}

-- these bytes came from the source; they are more than are allowed exactly where the run says so, and
-- the source is at its end unless a fault or too many bytes stopped the reading
pub record ReadsUpTo (most : ℕ) (old new : Option (List ℕ)) (end : Status) : Type 0 where
  pub input : List ℕ
  pub came : Consumes old new input
  pub long : end ≡ status.TooLong → most < length input
  pub short : end ≢ status.TooLong → length input ≤ most
  pub ended : IsTrue (reads_to_end end) → IsAtEnd new

-- these bytes came from the source, to its end, and are of this kind
pub record WasRead (most : ℕ) (Is : List ℕ → Type 0) (old new : Option (List ℕ)) : Type 0 where
  pub input : List ℕ
  pub came : Consumes old new input
  pub short : length input ≤ most
  pub ended : IsAtEnd new
  pub is : Is input

-- there is nothing to write, and the run ends so: by a bad line or an illegal entry of the bytes only
-- where they have it
pub record Stops (most : ℕ) (IsBad IsIllegal : List ℕ → ℕ → Type 0) (old new : Option (List ℕ)) (end : Status) : Type 0 where
  pub early : stops_reading end ≡ true
  pub reads : end ≢ status.NoMemory → ReadsUpTo most old new end
  pub bad : (bytes : List ℕ) (line : ℕ) → end ≡ status.BadSession line → old ≡ Some bytes → IsBad bytes line
  pub illegal : (bytes : List ℕ) (entry : ℕ) → end ≡ status.Illegal entry → old ≡ Some bytes → IsIllegal bytes entry
