-- What the planned events of an hour leave as it is settled: the orders in other zones than some, and rooms.
use Rattle.std.specs.Prelude.{◌≡◌, ℕ, ◌<◌, Bool, true, false, List, get_or}
use Rattle.order_kinds.specs.declared.side.Side.{Side}
use Rattle.order_kinds.specs.Contract.{contract_at}
use Rattle.order_kinds.specs.Period.{contract_quarters}
use Rattle.cut_proof.specs.ZoneSet.{holds}
use Rattle.zone_graph.specs.declared.route.Arc.{Arc}
use Rattle.zone_graph.specs.Graph.{Graph, HasArc, HasZone}
use Rattle.zone_graph.specs.Route.{IsIn}
use Rattle.market_model.specs.Board.{IsBoard}
use Rattle.market_model.specs.Room.{room}
use Rattle.laws_of_views.specs.Nearby.{seen_elsewhere}
use Rattle.hour_store.specs.Changed.{zones_of}
use Rattle.kept_hour.specs.Planned.{planned_zones}
use Rattle.kept_hour.specs.State.{HourState, settled_board}

-- the hour is a board of seven parts as it is planned, and one as it is settled
pub record AreBoards (hour : HourState) : Type 0 where
  pub parts : hour.board.parts ≡ 7
  pub planned : IsBoard hour.board
  pub settled : IsBoard (settled_board hour)

-- the zones of a grid whose bits are 1 are among some zones
abbrev pub HasTouched : Graph → (bits : ℕ) → (zones : List ℕ) → Type 0
HasTouched graph bits zones = (zone : ℕ) → HasZone graph zone → holds bits zone ≡ true → IsIn zone zones

-- elsewhere than in the zones of a part and side, and in whatever others, its orders are seen as they are
-- settled
abbrev pub AreSeenElsewhere : HourState → (touched : List ℕ) → Type 0
AreSeenElsewhere hour touched = (part : ℕ) (side : Side) (zones : List ℕ) → part < 7 → HasTouched hour.board.grid (zones_of touched part side) zones
    → seen_elsewhere hour.board.events (contract_at hour.board.hour part) side zones ≡ seen_elsewhere hour.settled (contract_at hour.board.hour part) side zones

-- the zones of a part and side are none but those of its orders that the planned events name
abbrev pub AreZonesPlanned : HourState → (touched : List ℕ) → Type 0
AreZonesPlanned hour touched = (part : ℕ) (side : Side) (zone : ℕ) → part < 7 → zone < 64 → holds (zones_of touched part side) zone ≡ true
    → IsIn zone (planned_zones hour part side)

-- each arc has the room over each contract of the hour that it has as settled
abbrev pub AreRoomsSettled : HourState → Type 0
AreRoomsSettled hour = (part : ℕ) (arc : Arc) → part < 7 → HasArc hour.board.grid arc
    → room hour.board.events (contract_quarters (contract_at hour.board.hour part)) arc
    ≡ room hour.settled (contract_quarters (contract_at hour.board.hour part)) arc

-- and so has each arc over a border that is none of the changed ones
abbrev pub AreRoomsSettledBut : HourState → (changed : List Bool) → Type 0
AreRoomsSettledBut hour changed = (part : ℕ) (arc : Arc) → part < 7 → HasArc hour.board.grid arc → get_or changed arc.border false ≡ false
    → room hour.board.events (contract_quarters (contract_at hour.board.hour part)) arc
    ≡ room hour.settled (contract_quarters (contract_at hour.board.hour part)) arc
