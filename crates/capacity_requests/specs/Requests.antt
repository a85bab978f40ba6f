-- Which quarter of an hour refuses an offer or a request.
use Rattle.std.specs.Prelude.{ℕ, pos, int_lt, nat_lt, Option, Some, None, if◌then◌else◌}
use Rattle.zone_graph.specs.declared.route.Arc.{Arc}
use Rattle.market_model.specs.Room.{is_open_phase, lots_of}
use Rattle.market_model.specs.Sweep.{first_answer}
use Rattle.flow_netting.specs.declared.quarter_set.QuarterSet.{QuarterSet}
use Rattle.flow_netting.specs.Border.{quarter_room}
use Rattle.flow_netting.specs.Flows.{Flows, border_at, flow_of}
use Rattle.flow_netting.specs.QuarterSet.{quarters_in}

-- a quarter, and what flows over an arc in it, where that is more than is offered
abbrev pub flow_above : Flows → Arc → (lots : ℕ) → (number : ℕ) → Option (ℕ × ℕ)
flow_above flows arc lots number =
    if int_lt (pos lots) (flow_of flows arc number) then Some (number, lots_of (flow_of flows arc number)) else None

-- the room of an arc in a quarter
abbrev pub room_in : Flows → Arc → (number : ℕ) → ℕ
room_in flows arc number = quarter_room (is_open_phase flows.phase) (border_at flows.borders arc.border) arc.forward number

-- a quarter, and the room of an arc in it, where that is less than is asked for
abbrev pub room_below : Flows → Arc → (lots : ℕ) → (number : ℕ) → Option (ℕ × ℕ)
room_below flows arc lots number =
    if nat_lt (room_in flows arc number) lots then Some (number, room_in flows arc number) else None

-- the first quarter of a set in which more flows than is offered
abbrev pub first_flow_above : Flows → Arc → QuarterSet → (lots : ℕ) → Option (ℕ × ℕ)
first_flow_above flows arc set lots = first_answer (flow_above flows arc lots) (quarters_in set)

-- the first quarter of a set in which there is less room than is asked for
abbrev pub first_room_below : Flows → Arc → QuarterSet → (lots : ℕ) → Option (ℕ × ℕ)
first_room_below flows arc set lots = first_answer (room_below flows arc lots) (quarters_in set)
