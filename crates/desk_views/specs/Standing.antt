-- When what a desk keeps is of a board, when what is next is, and how much is computed anew.
use Rattle.std.specs.Prelude.{◌≡◌, ◌≢◌, ◌⊎◌, ℕ, ◌+◌, ◌<◌, true, List, [], get_or, length, sum_by}
use Rattle.std.specs.List.{range_with_len}
use Rattle.order_kinds.specs.declared.side.Side.{Side}
use Rattle.order_kinds.specs.declared.side.Side.TheVariants.{Buy, Sell}
use Rattle.order_kinds.specs.Contract.{contract_at}
use Rattle.order_kinds.specs.Period.{contract_quarters}
use Rattle.cut_proof.specs.ZoneSet.{holds}
use Rattle.zone_graph.specs.declared.route.Arc.{Arc}
use Rattle.zone_graph.specs.Graph.{Graph, HasArc, end_of, start_of, zone_count}
use Rattle.zone_graph.specs.Rooms.{room_of}
use Rattle.zone_graph.specs.Route.{IsIn}
use Rattle.market_model.specs.Board.{BoardState}
use Rattle.market_model.specs.Room.{room}
use Rattle.laws_of_views.specs.Nearby.{DifferWithin}
use Rattle.local_view.specs.Boards.{AreRoomsOf, view_of}
use Rattle.local_view.specs.Kept.{adopted_rows, kept_of, made_after}
use Rattle.local_view.specs.Nearness.{near_count, zones_touched}
use Rattle.local_view.specs.Rows.{LineRows}
use Rattle.kept_hour.specs.Planned.{planned_zones}
use Rattle.kept_hour.specs.State.{HourState}
use Rattle.desk_views.specs.Desk.{DeskState, adopted}

-- what is kept is of a board: the rows of each part, side and zone are its view there, and the rooms of
-- each part are the part's
pub record StandAt (board : BoardState) (desk : DeskState) : Type 0 where
  pub zones : desk.views.zones ≡ zone_count board.grid
  pub parts : length desk.views.lines ≡ board.parts
  pub kept : (part : ℕ) (side : Side) (zone : ℕ) → part < board.parts → zone < zone_count board.grid
      → kept_of desk.views part side zone ≡ view_of board part side zone
  pub rooms : (part : ℕ) → part < board.parts → AreRoomsOf board part (get_or desk.rooms part [])

-- what is next, and what is kept where nothing is next, is of a board
abbrev pub IsNext : BoardState → DeskState → Type 0
IsNext board desk = StandAt board (adopted desk)

-- the rows that a part and side will have are the views of a board
abbrev pub AreComing : BoardState → (part : ℕ) → Side → LineRows → Type 0
AreComing board part side line = (zone : ℕ) → zone < zone_count board.grid → get_or (adopted_rows line.kept line.next) zone [] ≡ view_of board part side zone

-- how many rows of the parts are near the zones that are touched for each part and side
abbrev pub part_near : Graph → (rooms : List (List (ℕ × ℕ))) → (touched : (part : ℕ) → Side → ℕ) → (part : ℕ) → ℕ
part_near graph rooms touched part =
    near_count graph (room_of (get_or rooms part [])) Buy (touched part Buy)
    + near_count graph (room_of (get_or rooms part [])) Sell (touched part Sell)

abbrev pub near_of_parts : Graph → (rooms : List (List (ℕ × ℕ))) → (touched : (part : ℕ) → Side → ℕ) → (parts : ℕ) → ℕ
near_of_parts graph rooms touched parts = sum_by (part_near graph rooms touched) (range_with_len 0 parts)

-- the room over a part of an arc that begins or ends in a zone is another one as planned than as settled
abbrev pub RoomsMoveAt : HourState → (part zone : ℕ) → Type 0
RoomsMoveAt hour part zone = (arc : Arc) × HasArc hour.board.grid arc × ((start_of hour.board.grid arc ≡ zone) ⊎ (end_of hour.board.grid arc ≡ zone))
    × (room hour.board.events (contract_quarters (contract_at hour.board.hour part)) arc ≢ room hour.settled (contract_quarters (contract_at hour.board.hour part)) arc)

-- the rows were computed that are near some zones for each part and side, outside of which the hour as it is
-- planned is as it is settled: none but those of its orders that the planned events name, and those where rooms move
pub record IsMadeNear (hour : HourState) (old new : DeskState) : Type 0 where
  pub touched : (part : ℕ) → Side → ℕ
  pub differ : (part : ℕ) (side : Side) → part < 7
      → DifferWithin hour.board.grid hour.settled hour.board.events (contract_at hour.board.hour part) side (zones_touched hour.board.grid (touched part side))
  pub touches : (part : ℕ) (side : Side) (zone : ℕ) → part < 7 → zone < 64 → holds (touched part side) zone ≡ true
      → IsIn zone (planned_zones hour part side) ⊎ RoomsMoveAt hour part zone
  pub made : new.views.made ≡ made_after old.views.made (near_of_parts hour.board.grid old.rooms touched 7)
