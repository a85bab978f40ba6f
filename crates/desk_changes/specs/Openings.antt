-- Over which parts of an hour an arc has room, and over which it gets its first.
use Rattle.std.specs.Prelude.{◌≡◌, ℕ, ◌<◌, Bool, true, false, ◌&&◌, ◌||◌, not, nat_lt}
use Rattle.order_kinds.specs.Contract.{contract_at}
use Rattle.order_kinds.specs.Period.{contract_quarters}
use Rattle.zone_graph.specs.declared.route.Arc.{Arc}
use Rattle.market_model.specs.Board.{BoardState}
use Rattle.market_model.specs.Room.{room}
use Rattle.sweep_core.specs.declared.part_set.PartSet.{PartSet}
use Rattle.sweep_core.specs.Parts.{has_part}
use Rattle.desk_changes.specs.declared.openings.PartsWithRoom.{PartsWithRoom}

-- an arc of a border
abbrev pub arc_over : (border : ℕ) → (forward : Bool) → Arc
arc_over border forward = record { border = border; forward = forward }

-- the parts of a set are those over which an arc has room
abbrev pub HaveRoom : BoardState → Arc → PartSet → Type 0
HaveRoom board arc set = (part : ℕ) → part < 7 → has_part set part ≡ nat_lt 0 (room board.events (contract_quarters (contract_at board.hour part)) arc)

-- so it is for both arcs of a border
pub record AreWithRoom (board : BoardState) (border : ℕ) (parts : PartsWithRoom) : Type 0 where
  pub forward : HaveRoom board (arc_over border true) parts.forward
  pub backward : HaveRoom board (arc_over border false) parts.backward

-- a part is in a set now, and was not in it before
abbrev pub gets_room : (was now : PartSet) → (part : ℕ) → Bool
gets_room was now part = has_part now part && not (has_part was part)

-- over a part, an arc of a border got room
abbrev pub opens : (was now : PartsWithRoom) → (part : ℕ) → Bool
opens was now part = gets_room was.forward now.forward part || gets_room was.backward now.backward part
