-- Items in places, each with a key of its own.
use Rattle.std.specs.Prelude.{◌≡◌, ◌≢◌, ℕ, List, length, Option, Some, None, slice_index_or}
use Rattle.std.specs.List.{filter_map}

module _ {T : Type 0} where
  -- the item that a place holds, if it holds one
  abbrev pub held_at : List (Option T) → ℕ → Option T
  held_at places place = slice_index_or places place None

  -- the items that are held, in the order of their places
  abbrev pub held : List (Option T) → List T
  held places = filter_map (λ item. item) places

  -- how many places hold an item
  abbrev pub held_count : List (Option T) → ℕ
  held_count places = length (held places)

module _ {T K : Type 0} (key_of : T → K) where
  -- no place holds an item of this key
  abbrev pub IsAbsent : List (Option T) → K → Type 0
  IsAbsent places key = (place : ℕ) (item : T) → held_at places place ≡ Some item → key_of item ≢ key

  -- the place holds an item of this key
  abbrev pub Holds : List (Option T) → K → ℕ → Type 0
  Holds places key place = (item : T) × (held_at places place ≡ Some item) × (key_of item ≡ key)

  -- there are 4096 places, and no two of them hold items of one key
  pub record AreKeyed (places : List (Option T)) : Type 0 where
    pub size : length places ≡ 4096
    pub once : (one other : ℕ) (item same : T) → held_at places one ≡ Some item → held_at places other ≡ Some same
        → key_of item ≡ key_of same → one ≡ other
