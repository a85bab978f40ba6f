-- Lists of places, one list for each line.
use Rattle.std.specs.Prelude.{◌≡◌, ℕ, ◌<◌, List, [], ◌∷◌, ◌++◌, length, slice_index_or, slice_set, Contains, Option, Some, None}

-- the places of a line, in order
abbrev pub line_at : List (List ℕ) → ℕ → List ℕ
line_at lines line = slice_index_or lines line []

-- the place stands in the line
abbrev pub StandsIn : List (List ℕ) → ℕ → ℕ → Type 0
StandsIn lines line place = (line < length lines) × Contains (line_at lines line) place

-- the place stands in the line right between these two parts of it
abbrev pub StandsBetween : List (List ℕ) → ℕ → List ℕ → ℕ → List ℕ → Type 0
StandsBetween lines line front place back =
    (line < length lines) × (line_at lines line ≡ front ++ place ∷ back)

-- a place stands at one spot only
abbrev pub StandOnce : List (List ℕ) → Type 0
StandOnce lines =
    (line other place : ℕ) (front back front' back' : List ℕ)
    → StandsBetween lines line front place back → StandsBetween lines other front' place back'
    → (line ≡ other) × (front ≡ front') × (back ≡ back')

-- the new lines are the old ones without this place
abbrev pub IsRemoved : List (List ℕ) → List (List ℕ) → ℕ → Type 0
IsRemoved old new place =
    (line : ℕ) (front back : List ℕ) → StandsBetween old line front place back
    → new ≡ slice_set old line (front ++ back)

-- the new lines are the old ones with a place put into a line: right before a place of that line,
-- or at its end where no place is given
abbrev pub IsInserted : List (List ℕ) → List (List ℕ) → ℕ → Option ℕ → ℕ → Type 0
IsInserted old new line None place = new ≡ slice_set old line (line_at old line ++ place ∷ [])
IsInserted old new line (Some before) place =
    (front back : List ℕ) → StandsBetween old line front before back
    → new ≡ slice_set old line (front ++ place ∷ before ∷ back)

-- the first place of a list
abbrev pub first_in : List ℕ → Option ℕ
first_in [] = None
first_in (place ∷ places) = Some place

-- the last place of a list
abbrev pub last_in : List ℕ → Option ℕ
last_in [] = None
last_in (place ∷ []) = Some place
last_in (place ∷ second ∷ places) = last_in (second ∷ places)

-- the first place behind a place of a line
abbrev pub IsNext : List (List ℕ) → ℕ → Option ℕ → Type 0
IsNext lines place answer =
    (line : ℕ) (front back : List ℕ) → StandsBetween lines line front place back
    → answer ≡ first_in back

-- the last place ahead of a place of a line
abbrev pub IsPrevious : List (List ℕ) → ℕ → Option ℕ → Type 0
IsPrevious lines place answer =
    (line : ℕ) (front back : List ℕ) → StandsBetween lines line front place back
    → answer ≡ last_in front

-- the new lines are the old ones with a place taken from where it stands and put into a line
abbrev pub IsMoved : List (List ℕ) → List (List ℕ) → ℕ → ℕ → Option ℕ → Type 0
IsMoved old new place line before =
    (from : ℕ) (front back : List ℕ) → StandsBetween old from front place back
    → IsInserted (slice_set old from (front ++ back)) new line before place
