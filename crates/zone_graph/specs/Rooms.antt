-- Rooms: how many lots each arc has room for, as a list with the rooms of a border's forward and
-- backward arc at the border's place.
use Rattle.std.specs.Prelude.{ℕ, Bool, true, false, List, min, slice_index_or}
use Rattle.zone_graph.specs.declared.route.Arc.{Arc}

-- the part of a pair that stands for a direction: the first one is forward
abbrev pub part_of : Bool → ℕ × ℕ → ℕ
part_of true pair = pair.0
part_of false pair = pair.1

-- the room of an arc; an arc over a border that is not there has none
abbrev pub room_of : List (ℕ × ℕ) → Arc → ℕ
room_of rooms arc = part_of arc.forward (slice_index_or rooms arc.border (0, 0))

-- the lesser room in each direction
abbrev pub lesser_pair : ℕ × ℕ → ℕ × ℕ → ℕ × ℕ
lesser_pair a b = (min a.0 b.0, min a.1 b.1)
