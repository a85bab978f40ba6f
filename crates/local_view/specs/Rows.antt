-- The rows of the views of one part and side.
use Rattle.std.specs.Prelude.{◌≡◌, ◌⊎◌, ℕ, Bool, true, false, List, [], get_or, length, map, Option, Some, None, if◌then◌else◌}
use Rattle.std.specs.List.{range_with_len}
use Rattle.cut_proof.specs.ZoneSet.{holds}
use Rattle.market_model.specs.declared.reply.ViewRow.{ViewRow}

-- the rows that are kept of each zone, and those that are next, where there are such
pub record LineRows : Type 0 where
  pub kept : List (List ViewRow)
  pub next : Option (List (List ViewRow))

-- the next rows, where they are there
abbrev pub rows_if : Bool → List (List ViewRow) → Option (List (List ViewRow))
rows_if true rows = Some rows
rows_if false rows = None

-- the rows of a zone: the next ones, where they were computed, else the kept ones; a list that is not made is empty
abbrev pub chosen_at : (computed : ℕ) → (kept next : List (List ViewRow)) → (zone : ℕ) → List ViewRow
chosen_at computed kept next zone = if holds computed zone then get_or next zone [] else get_or kept zone []

-- those of each of so many zones
abbrev pub chosen : (zones computed : ℕ) → (kept next : List (List ViewRow)) → List (List ViewRow)
chosen zones computed kept next = map (chosen_at computed kept next) (range_with_len 0 zones)

-- the lists of so many zones, of which none may be made
abbrev pub of_zones : (zones : ℕ) → List (List ViewRow) → List (List ViewRow)
of_zones zones lists = map (λ zone. get_or lists zone []) (range_with_len 0 zones)

-- as many kept lists as next ones: those of so many zones, or none
pub record HaveLists (zones : ℕ) (kept next : List (List ViewRow)) : Type 0 where
  pub same : length next ≡ length kept
  pub made : (length next ≡ 0) ⊎ (length next ≡ zones)
