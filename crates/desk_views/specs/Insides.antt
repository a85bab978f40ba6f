-- What a desk always keeps of its rows of rooms. No public clause cites this module.
use Rattle.std.specs.Prelude.{◌≡◌, ◌≢◌, ℕ, ◌<◌, ◌≤◌, Bool, true, false, List, [], get_or, length, Option, Some, None}
use Rattle.order_kinds.specs.Contract.{contract_at}
use Rattle.order_kinds.specs.Period.{contract_quarters}
use Rattle.quarter_capacity.specs.Capacity.{most_remaining}
use Rattle.zone_graph.specs.declared.route.Arc.{Arc}
use Rattle.zone_graph.specs.Graph.{Graph, border_count}
use Rattle.zone_graph.specs.Rooms.{room_of}
use Rattle.market_model.specs.Board.{BoardState}
use Rattle.market_model.specs.Room.{room}

-- the rows of rooms that are next, if they were asked for
abbrev pub planned_if : (asked : Bool) → List (List (ℕ × ℕ)) → Option (List (List (ℕ × ℕ)))
planned_if true planned = Some planned
planned_if false planned = None

-- both have a row for each of the seven parts, and that of a part is as long in both
pub record IsInside (rooms planned : List (List (ℕ × ℕ))) : Type 0 where
  pub seven : length rooms ≡ 7
  pub seven_planned : length planned ≡ 7
  pub same : (part : ℕ) → length (get_or rooms part []) ≡ length (get_or planned part [])

-- a row of rooms of a graph in which no arc has room
abbrev pub HasNoRoom : Graph → List (ℕ × ℕ) → Type 0
HasNoRoom graph rooms = (length rooms ≡ border_count graph) × ((arc : Arc) → room_of rooms arc ≡ 0)

-- so many lots are the room of an arc over a part
abbrev pub IsRoomOf : BoardState → (part : ℕ) → Arc → (lots : ℕ) → Type 0
IsRoomOf board part arc lots = (lots ≡ room board.events (contract_quarters (contract_at board.hour part)) arc) × (lots ≤ most_remaining)

-- the rows of all parts have the rooms of the arcs over a border
abbrev pub HaveRoomsOver : BoardState → (border : ℕ) → List (List (ℕ × ℕ)) → Type 0
HaveRoomsOver board border rows = (part : ℕ) (arc : Arc) → part < 7 → arc.border ≡ border → IsRoomOf board part arc (room_of (get_or rows part []) arc)

-- those of arcs over other borders are the same
abbrev pub AreSameBeside : (border : ℕ) → (old new : List (List (ℕ × ℕ))) → Type 0
AreSameBeside border old new = (part : ℕ) (arc : Arc) → part < 7 → arc.border ≢ border → room_of (get_or new part []) arc ≡ room_of (get_or old part []) arc
