-- What an hour has planned: the events behind those that are settled.
use Rattle.std.specs.Prelude.{◌≡◌, ℕ, Bool, true, List, ◌++◌, drop, length, None}
use Rattle.order_kinds.specs.declared.side.Side.{Side}
use Rattle.order_kinds.specs.Contract.{contract_at}
use Rattle.market_model.specs.declared.event.Event.{Event}
use Rattle.market_model.specs.declared.event.Event.TheVariants as event
use Rattle.market_model.specs.Board.{IsHourOf, with_events}
use Rattle.laws_of_hours.specs.FlowEvents.{changes_flows}
use Rattle.laws_of_views.specs.Changes.{zones_of_events}
use Rattle.kept_hour.specs.State.{HourState, with_board, with_hand}

-- nothing is planned, and no order is in hand
pub record IsUnplanned (hour : HourState) : Type 0 where
  pub events : hour.board.events ≡ hour.settled
  pub free : hour.board.hand ≡ None

-- the hour with these events behind those that it has, and no order in hand
abbrev pub after_events : HourState → List Event → HourState
after_events hour events = with_board hour (with_hand (with_events hour.board (hour.board.events ++ events)) None)

-- the hour with these events planned
abbrev pub with_planned : HourState → List Event → HourState
with_planned hour events = with_board hour (with_hand (with_events hour.board (hour.settled ++ events)) None)

-- some events can be the next ones of the hour
abbrev pub CanFollow : HourState → List Event → Type 0
CanFollow hour events = IsHourOf hour.board.grid hour.board.hour (hour.board.events ++ events)

-- the planned events: those behind the settled ones
abbrev pub planned_of : HourState → List Event
planned_of hour = drop (length hour.settled) hour.board.events

-- the zones of the orders of a part and side that the planned events enter, trade, withdraw or reduce
abbrev pub planned_zones : HourState → (part : ℕ) → Side → List ℕ
planned_zones hour part side = zones_of_events hour.settled (planned_of hour) (contract_at hour.board.hour part) side

-- an event is of the flows: a leg, a grant, an offer, or of a halt or the phase
abbrev pub moves_flows : Event → Bool
moves_flows (event.Leg contract leg) = true
moves_flows (event.BlockLeg first last leg) = true
moves_flows e = changes_flows e
