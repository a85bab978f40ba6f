-- The lines that an image stores.
use Rattle.std.specs.Prelude.{◌≡◌, ◌≢◌, ◌⊎◌, ℕ, ◌<◌, ◌≤◌, ◌^◌, List, [], ◌∷◌, ◌++◌, length}
use Rattle.std.specs.Int.{w64, to_be_bytes}

-- a line that can be stored: some bytes, whose number has eight bytes
pub record IsLine (line : List ℕ) : Type 0 where
  pub some : 0 < length line
  pub short : length line < 2 ^ 64

abbrev pub AreLines : List (List ℕ) → Type 0
AreLines [] = Unit {0}
AreLines (line ∷ lines) = IsLine line × AreLines lines

-- a number in eight bytes, the highest first
unfoldable pub number_bytes : ℕ → List ℕ
number_bytes n = to_be_bytes w64 n

-- what stands of a line behind its gate: its length, and its bytes
abbrev pub behind_gate : List ℕ → List ℕ
behind_gate line = number_bytes (length line) ++ line

-- a line with its gate open
abbrev pub block : List ℕ → List ℕ
block line = 1 ∷ behind_gate line

-- lines with their gates open, one behind the other
abbrev pub blocks : List (List ℕ) → List ℕ
blocks [] = []
blocks (line ∷ lines) = block line ++ blocks lines

-- the image of lines: each with its gate open, and a closed gate behind them
abbrev pub image_of : List (List ℕ) → List ℕ
image_of lines = blocks lines ++ 0 ∷ []

-- These lines stand in the image from place 0 on, and end at this place, where a byte stands that
-- is no open gate.
pub record EndsAt (image : List ℕ) (lines : List (List ℕ)) (place : ℕ) : Type 0 where
  pub each : AreLines lines
  pub gate : ℕ
  pub behind : List ℕ
  pub whole : image ≡ blocks lines ++ gate ∷ behind
  pub shut : gate ≢ 1
  pub end : place ≡ length (blocks lines)

-- an image of at most one byte stores no line and ends at place 0
pub record IsShort (image : List ℕ) (lines : List (List ℕ)) (place : ℕ) : Type 0 where
  pub short : length image ≤ 1
  pub none : lines ≡ []
  pub start : place ≡ 0

-- the image stores these lines, which end at this place
abbrev pub Stores : (image : List ℕ) → (lines : List (List ℕ)) → (place : ℕ) → Type 0
Stores image lines place = IsShort image lines place ⊎ EndsAt image lines place

-- the image is not damaged and stores these lines, wherever they end
abbrev pub StoresLines : (image : List ℕ) → (lines : List (List ℕ)) → Type 0
StoresLines image lines = (place : ℕ) × Stores image lines place

-- The image is damaged at this place: behind some lines a gate is open, and what follows it is no
-- line with a further byte behind it.
pub record IsDamaged (image : List ℕ) (place : ℕ) : Type 0 where
  pub long : 1 < length image
  pub before : List (List ℕ)
  pub each : AreLines before
  pub rest : List ℕ
  pub whole : image ≡ blocks before ++ 1 ∷ rest
  pub at : place ≡ length (blocks before)
  pub no_line : (line : List ℕ) (gate : ℕ) (behind : List ℕ) → IsLine line → rest ≡ behind_gate line ++ gate ∷ behind → ⊥
