-- What a kept hour is: a board, and the events that are settled; and what its calls make of it.
use Rattle.std.specs.Prelude.{ℕ, List, [], Option, None}
use Rattle.order_kinds.specs.declared.contract.Quarter.{Quarter}
use Rattle.order_kinds.specs.declared.order.BlockOrder.{BlockOrder}
use Rattle.order_kinds.specs.declared.order.Order.{Order}
use Rattle.order_kinds.specs.declared.order.OrderName.{OrderName}
use Rattle.order_kinds.specs.declared.phase.Phase.{Phase}
use Rattle.zone_graph.specs.declared.route.Arc.{Arc}
use Rattle.zone_graph.specs.Graph.{Graph}
use Rattle.market_model.specs.declared.event.Event.{Event}
use Rattle.market_model.specs.declared.event.Event.TheVariants as event
use Rattle.market_model.specs.Board.{BoardState, IsHourOf, with_events}
use Rattle.market_model.specs.History.{and_then}
use Rattle.market_model.specs.Orders.{next_name}

-- the board of an hour as planned, and the first of its events, those that are settled
pub record HourState : Type 0 where
  pub board : BoardState
  pub settled : List Event

-- a board with another order in hand, or none
abbrev pub with_hand : BoardState → (hand : Option ℕ) → BoardState
with_hand board hand = record { grid = board.grid; hour = board.hour; parts = board.parts; events = board.events; hand = hand }

-- the hour with another board
abbrev pub with_board : HourState → BoardState → HourState
with_board hour board = record { board = board; settled = hour.settled }

-- the hour with no order in hand
abbrev pub without_hand : HourState → HourState
without_hand hour = with_board hour (with_hand hour.board None)

-- the board of an hour as it is settled
abbrev pub settled_board : HourState → BoardState
settled_board hour = with_hand (with_events hour.board hour.settled) None

-- the board of an hour of a grid without events
abbrev pub empty_board : Graph → (hour : ℕ) → BoardState
empty_board graph hour = record { grid = graph; hour = hour; parts = 7; events = []; hand = None }

-- the hour after one more event, with an order in hand or none
abbrev pub after_event : HourState → Event → (hand : Option ℕ) → HourState
after_event hour event hand = with_board hour (with_hand (with_events hour.board (and_then hour.board.events event)) hand)

-- an event can be the next one of the hour
abbrev pub CanBeNext : HourState → Event → Type 0
CanBeNext hour event = IsHourOf hour.board.grid hour.board.hour (and_then hour.board.events event)

-- the entry of an order under the next name of the hour
abbrev pub entry_of : HourState → (caller : ℕ) → Order → Event
entry_of hour caller order = event.Entered (next_name hour.board.events hour.board.hour) caller order

-- the name of an order or block of the hour
abbrev pub name_in : HourState → (number : ℕ) → OrderName
name_in hour number = record { hour = hour.board.hour; number = number }

-- all planned events are dropped, and the order in hand
abbrev pub undone : HourState → HourState
undone hour = with_board hour (settled_board hour)

-- all planned events are settled
abbrev pub settled_now : HourState → HourState
settled_now hour = record { board = hour.board; settled = hour.board.events }

-- so many lots, all that is left, of an order or block of the hour are withdrawn
abbrev pub withdrawal_of : HourState → (number lots : ℕ) → Event
withdrawal_of hour number lots = event.Withdrawn (name_in hour number) lots

-- an order of the hour is reduced
abbrev pub reduction_of : HourState → (number by : ℕ) → Event
reduction_of hour number by = event.Reduced (name_in hour number) by

-- capacity is offered, and granted
abbrev pub offer_of : Arc → (first last : Quarter) → (lots : ℕ) → Event
offer_of arc first last lots = event.Offered arc first last lots

abbrev pub grant_of : Arc → (first last : Quarter) → (lots : ℕ) → Event
grant_of arc first last lots = event.Granted arc first last lots

-- a border is halted, and resumed
abbrev pub halt_of : (border first last : ℕ) → Event
halt_of border first last = event.Halted border first last

abbrev pub resumption_of : (border first last : ℕ) → Event
resumption_of border first last = event.Resumed border first last

-- the hour moves to a phase
abbrev pub gate_of : HourState → Phase → Event
gate_of hour phase = event.Gated hour.board.hour phase

-- the entry of a block under the next name of the hour
abbrev pub block_entry_of : HourState → (caller : ℕ) → BlockOrder → Event
block_entry_of hour caller order = event.EnteredBlock (next_name hour.board.events hour.board.hour) caller order
