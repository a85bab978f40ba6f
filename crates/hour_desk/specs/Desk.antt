-- What a desk is: its hour and its grid, the events that are settled, and, where something is planned, these
-- with the planned ones behind them.
use Rattle.std.specs.Prelude.{ℕ, List, [], ◌++◌, Option, Some, None, drop, length, unwrap_or}
use Rattle.zone_graph.specs.Graph.{Graph}
use Rattle.market_model.specs.declared.event.Event.{Event}
use Rattle.market_model.specs.Board.{BoardState}

pub record DeskState : Type 0 where
  pub hour : ℕ
  pub grid : Graph
  pub settled : List Event
  pub planned : Option (List Event)

-- the desk of an hour without events
abbrev pub empty_desk : Graph → (hour : ℕ) → DeskState
empty_desk graph hour = record { hour = hour; grid = graph; settled = []; planned = None }

-- the desk with nothing planned
abbrev pub with_nothing_planned : DeskState → DeskState
with_nothing_planned desk = record { hour = desk.hour; grid = desk.grid; settled = desk.settled; planned = None }

-- the desk with these events planned, and no others
abbrev pub planning : DeskState → List Event → DeskState
planning desk events = record { hour = desk.hour; grid = desk.grid; settled = desk.settled; planned = Some (desk.settled ++ events) }

-- the desk with all that is planned settled
abbrev pub carried : DeskState → DeskState
carried desk = record { hour = desk.hour; grid = desk.grid; settled = unwrap_or desk.planned desk.settled; planned = None }

-- the events that are planned behind those that are settled: none where nothing is planned
abbrev pub planned_events : DeskState → List Event
planned_events desk = drop (length desk.settled) (unwrap_or desk.planned desk.settled)

-- the hour as it is settled
abbrev pub board_of : DeskState → BoardState
board_of desk = record { grid = desk.grid; hour = desk.hour; parts = 7; events = desk.settled; hand = None }
