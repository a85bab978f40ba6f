-- Rooms that a draft leaves, and flows that are kept of drafts.
use Rattle.std.specs.Prelude.{◌≡◌, ℕ, ◌+◌, List, length}
use Rattle.zone_graph.specs.declared.route.Arc.{Arc}
use Rattle.zone_graph.specs.Pour.{opposite_arc}
use Rattle.zone_graph.specs.Rooms.{room_of}
use Rattle.local_view.specs.declared.draft.Flow.{Flow}

-- the two arcs of a border have as much room together as before
abbrev pub IsKept : (old new : List (ℕ × ℕ)) → Arc → Type 0
IsKept old new arc = room_of new arc + room_of new (opposite_arc arc) ≡ room_of old arc + room_of old (opposite_arc arc)

-- so have those of each border
abbrev pub AreKept : (old new : List (ℕ × ℕ)) → Type 0
AreKept old new = (arc : Arc) → IsKept old new arc

-- a flow is over rooms of so many borders, and leaves each border as much of them together
abbrev pub IsFlow : (borders : ℕ) → Flow → Type 0
IsFlow borders flow = (length flow.of ≡ borders) × (length flow.left ≡ borders) × AreKept flow.of flow.left
