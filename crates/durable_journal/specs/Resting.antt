-- A disk between two appends.
use Rattle.std.specs.Prelude.{◌≡◌, ℕ, ◌<◌, List, Option, Some}
use Rattle.disk_model.specs.Contents.{Contents, settled}
use Rattle.durable_journal.specs.Stored.{EndsAt, image_of}

-- A disk with these contents has one image, what it reads as, which stores these lines. They end at
-- this place, where a byte stands that is no open gate.
pub record HoldsLines (contents : Option Contents) (lines : List (List ℕ)) (place : ℕ) : Type 0 where
  pub bytes : List ℕ
  pub told : contents ≡ Some (settled bytes)
  pub ends : EndsAt bytes lines place

-- a disk with these contents has one image, the image of these lines and nothing more
abbrev pub IsImageOf : Option Contents → (lines : List (List ℕ)) → Type 0
IsImageOf contents lines = contents ≡ Some (settled (image_of lines))

-- A line can be appended to a disk of this size and with these contents at this place: a byte
-- stands there, and where the disk tells its contents, it holds lines that end there.
pub record IsAtRest (size : ℕ) (contents : Option Contents) (place : ℕ) : Type 0 where
  pub within : place < size
  pub holds : (told : Contents) → contents ≡ Some told → (lines : List (List ℕ)) × HoldsLines contents lines place
