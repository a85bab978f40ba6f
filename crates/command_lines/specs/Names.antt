-- Where a name stands among those that are declared.
use Rattle.std.specs.Prelude.{ℕ, List, [], Option, Some, None, nat_eq, position, get_or, unwrap_or, length, if◌then◌else◌}
use Rattle.std.specs.Cmp.Lexicographic.{pointwise}
use Rattle.market_spelling.specs.Chain.{◌>>=◌}
use Rattle.market_spelling.specs.Words.{is_name, arc_of}

-- the place of the first name of the same bytes, if there is one
abbrev pub place_of : List (List ℕ) → List ℕ → Option ℕ
place_of names name = position (pointwise nat_eq name) names

-- the name at a place
abbrev pub name_at : List (List ℕ) → ℕ → List ℕ
name_at names place = get_or names place []

-- the number that a name has among the zones: its place, or the number of zones where no zone has it
abbrev pub zone_number : List (List ℕ) → List ℕ → ℕ
zone_number zones name = unwrap_or (place_of zones name) (length zones)

-- the number of a zone, by a word that is a name
unfoldable pub zone_of : List (List ℕ) → List ℕ → Option ℕ
zone_of zones word = if is_name word then Some (zone_number zones word) else None

-- the numbers of the zones that an arc leads from and to
unfoldable pub ends_of : List (List ℕ) → List ℕ → Option (ℕ × ℕ)
ends_of zones word = do
  names ← arc_of word
  Some (zone_number zones names.0, zone_number zones names.1)
