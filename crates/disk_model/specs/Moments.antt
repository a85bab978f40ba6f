-- What a crash at some moment may leave, in a call or between two.
use Rattle.std.specs.Prelude.{◌⊎◌, ℕ, ◌≤◌, List, Option, Some, None}
use Rattle.disk_model.specs.Contents.{Contents, IsImage}

-- a crash now may leave this image: of a disk that does not tell its contents nothing is known
abbrev pub MayLeave : Option Contents → List ℕ → Type 0
MayLeave None image = Unit {0}
MayLeave (Some contents) image = IsImage contents image

-- Time goes on: a crash since a moment might have left what it might have left before, or what a
-- crash may leave now.
pub record Elapses (before now : ℕ) (past since : ℕ → List ℕ → Type 0) (contents : Option Contents) : Type 0 where
  pub later : before ≤ now
  pub nothing_else : (t : ℕ) (image : List ℕ) → t ≤ before → since t image → past t image ⊎ MayLeave contents image
  pub keeps : (t : ℕ) (image : List ℕ) → t ≤ before → past t image → since t image

-- A crash at any moment from the old disk to the new one leaves an image that has P.
pub record LeavesOnly {D : Type 0} (moment : D → ℕ) (left_since : D → ℕ → List ℕ → Type 0) (old new : D) (P : List ℕ → Type 0) : Type 0 where
  pub later : moment old ≤ moment new
  pub each : (image : List ℕ) → left_since new (moment old) image → P image
  -- for a run that began earlier
  pub before : (t : ℕ) (image : List ℕ) → t ≤ moment old → left_since new t image → left_since old t image ⊎ P image
