-- An hour as those that match its orders see it: a list of the hour's events, and an order in hand,
-- which has entered and does not rest yet, or none.
use Rattle.std.specs.Prelude.{◌≡◌, ℕ, ◌<◌, ◌≤◌, Bool, true, false, ◌==◌, List, [], ◌∷◌, filter, length, not, Option, Some, None, if◌then◌else◌}
use Rattle.std.specs.List.{list_any}
use Rattle.order_kinds.specs.declared.order.OrderName.{OrderName}
use Rattle.order_kinds.specs.declared.side.Side.{Side}
use Rattle.order_kinds.specs.Contract.{contract_at}
use Rattle.zone_graph.specs.Graph.{Graph}
use Rattle.market_model.specs.declared.board.Shown.{Shown}
use Rattle.market_model.specs.declared.event.Event.{Event}
use Rattle.market_model.specs.declared.event.Event.TheVariants as event
use Rattle.market_model.specs.declared.event.Leg.{Leg}
use Rattle.market_model.specs.declared.setup.Setup.{Setup}
use Rattle.market_model.specs.Grid.{graph_of}
use Rattle.market_model.specs.History.{and_then, of_hour}
use Rattle.market_model.specs.Lines.{line}
use Rattle.market_model.specs.Orders.{Standing, open_names}
use Rattle.market_model.specs.Refusals.{desk_room}
use Rattle.market_model.specs.WellFormed.{FitAfter, IsMarketSetup, LegFits}

-- what a board stands for: the grid, the hour, how many of its parts there are, the hour's events,
-- and the number of the order in hand
pub record BoardState : Type 0 where
  pub grid : Graph
  pub hour : ℕ
  pub parts : ℕ
  pub events : List Event
  pub hand : Option ℕ

-- the events are those of the hour of some history over a grid, each event of which fits those
-- before it
pub record IsHourOf (graph : Graph) (hour : ℕ) (events : List Event) : Type 0 where
  pub setup : Setup
  pub history : List Event
  pub over_grid : graph_of setup ≡ graph
  pub is_setup : IsMarketSetup setup
  pub fit : FitAfter setup [] history
  pub in_hour : of_hour hour history ≡ events

-- an order or block is the one in hand
abbrev pub is_in_hand : (hand : Option ℕ) → OrderName → Bool
is_in_hand None name = false
is_in_hand (Some number) name = name.number == number

-- the names of the hour that rest: those that are open and not in hand
abbrev pub resting_names : BoardState → List OrderName
resting_names board = filter (λ name. not (is_in_hand board.hand name)) (open_names board.events board.hour)

-- what every board keeps: it stands for an hour of a history, and no more rest than an hour has room for
pub record IsBoard (board : BoardState) : Type 0 where
  pub stands : IsHourOf board.grid board.hour board.events
  pub few : length (resting_names board) ≤ desk_room

-- the line of a part and side without the order in hand: those that rest, in priority
abbrev pub resting_line : BoardState → (part : ℕ) → Side → List Standing
resting_line board part side =
    filter (λ order. not (is_in_hand board.hand order.name)) (line board.events (contract_at board.hour part) side)

-- an order has this number
abbrev pub has_number : (number : ℕ) → Standing → Bool
has_number number order = order.name.number == number

-- what a board shows of a resting order
abbrev pub shown_of : Standing → Shown
shown_of order = record {
  number = order.name.number;
  zone = order.order.zone;
  side = order.order.side;
  price = order.price;
  lots = order.shown;
  moment = order.moment;
}

-- what it shows of the first order of a line, if there is one
abbrev pub first_shown : List Standing → Option Shown
first_shown [] = None
first_shown (order ∷ orders) = Some (shown_of order)

-- and of the order behind that of a number, if there is one
abbrev pub shown_behind : (number : ℕ) → List Standing → Option Shown
shown_behind number [] = None
shown_behind number (order ∷ orders) = if has_number number order then first_shown orders else shown_behind number orders

-- an order of this number rests in a part and on a side
abbrev pub RestsIn : BoardState → (part : ℕ) → Side → (number : ℕ) → Type 0
RestsIn board part side number = (part < board.parts) × (list_any (has_number number) (resting_line board part side) ≡ true)

-- an order of this number rests
abbrev pub Rests : BoardState → (number : ℕ) → Type 0
Rests board number = (part : ℕ) × (side : Side) × RestsIn board part side number

-- a leg can be made in a part: over a setup of the grid it fits the events
abbrev pub CanBeMade : BoardState → (part : ℕ) → Leg → Type 0
CanBeMade board part leg = (setup : Setup) × (graph_of setup ≡ board.grid) × LegFits setup board.events (contract_at board.hour part) leg

-- the board after more events
abbrev pub with_events : BoardState → List Event → BoardState
with_events board events = record {
  grid = board.grid;
  hour = board.hour;
  parts = board.parts;
  events = events;
  hand = board.hand;
}

-- the board after a leg in a part
abbrev pub after_leg : BoardState → (part : ℕ) → Leg → BoardState
after_leg board part leg = with_events board (and_then board.events (event.Leg (contract_at board.hour part) leg))
