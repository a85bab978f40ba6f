-- In which zones the rooms of arcs have become others, and which zones are touched by a plan.
use Rattle.std.specs.Prelude.{◌≡◌, ℕ, ◌<◌, Bool, true, false, ◌==◌, ◌&&◌, ◌||◌, not, List, get_or}
use Rattle.std.specs.Int.RustNames.{bit_or}
use Rattle.std.specs.List.{list_any, range_with_len}
use Rattle.order_kinds.specs.declared.side.Side.{Side}
use Rattle.cut_proof.specs.ZoneSet.{holds}
use Rattle.zone_graph.specs.declared.route.Arc.{Arc}
use Rattle.zone_graph.specs.Graph.{Graph, border_count, ends_of}
use Rattle.zone_graph.specs.Rooms.{room_of}
use Rattle.hour_store.specs.Changed.{zones_of}

-- the room of an arc has become another one
abbrev pub is_moved : (old new : List (ℕ × ℕ)) → Arc → Bool
is_moved old new arc = not (room_of old arc == room_of new arc)

-- that of one of the two arcs over a border has
abbrev pub has_moved : (old new : List (ℕ × ℕ)) → (border : ℕ) → Bool
has_moved old new border = is_moved old new (record { border = border; forward = true }) || is_moved old new (record { border = border; forward = false })

-- and the border joins a zone with another one
abbrev pub moves_in : Graph → (old new : List (ℕ × ℕ)) → (zone border : ℕ) → Bool
moves_in graph old new zone border = has_moved old new border && (((ends_of graph border).0 == zone) || ((ends_of graph border).1 == zone))

-- the bits that are 1 are those of the zones in which rooms have become others
abbrev pub AreMoved : Graph → (old new : List (ℕ × ℕ)) → (zones : ℕ) → Type 0
AreMoved graph old new zones = (zone : ℕ) → zone < 64
    → holds zones zone ≡ list_any (moves_in graph old new zone) (range_with_len 0 (border_count graph))

-- over the borders that are none of the changed ones no room has become another one
abbrev pub AreStillBut : Graph → (changed : List Bool) → (old new : List (ℕ × ℕ)) → Type 0
AreStillBut graph changed old new = (border : ℕ) → border < border_count graph → get_or changed border false ≡ false → has_moved old new border ≡ false

-- the zones in which orders of a part and side have changed, or rooms of the part
abbrev pub touched_of : (changed moved : List ℕ) → (part : ℕ) → Side → ℕ
touched_of changed moved part side = bit_or (zones_of changed part side) (get_or moved part 0)
