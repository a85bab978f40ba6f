-- How the items of a region lie in its places: in order from the first place on.
use Rattle.std.specs.Prelude.{◌≡◌, ℕ, ◌-◌, ◌≤◌, List, [], ◌∷◌, ◌++◌, map, length, replicate, slice_index_or, Option, Some, None}

-- so many places, the first of which hold what the items are mapped to
unfoldable pub filled : {X Y : Type 0} → (X → Option Y) → List X → ℕ → List (Option Y)
filled f items count = map f items ++ replicate (count - length items) None

module _ {X : Type 0} where
  -- the items that are there
  abbrev pub somes : List (Option X) → List X
  somes [] = []
  somes (None ∷ slots) = somes slots
  somes (Some item ∷ slots) = item ∷ somes slots

  -- the place at the index holds an item
  abbrev pub IsFilled : List (Option X) → ℕ → Type 0
  IsFilled slots index = (item : X) × (slice_index_or slots index None ≡ Some item)

  -- the first so many places hold the items, and the others none
  pub record AreLaid (slots : List (Option X)) (len room : ℕ) : Type 0 where
    pub laid : slots ≡ filled Some (somes slots) room
    pub len_is : len ≡ length (somes slots)
    pub within : len ≤ room
