-- What a desk always keeps. No public clause cites this module.
use Rattle.std.specs.Prelude.{◌≡◌, Bool, true, false, List, Option, Some, None}
use Rattle.market_model.specs.declared.event.Event.{Event}
use Rattle.laws_of_boards.specs.Settled.{IsSettled}
use Rattle.desk_views.specs.Desk as views
use Rattle.desk_views.specs.Standing.{IsNext, StandAt}
use Rattle.desk_changes.specs.State.{HourState, settled_board}
use Rattle.hour_desk.specs.Desk.{DeskState}

-- the events of an hour, if something is planned
abbrev pub planned_if : (is_planned : Bool) → List Event → Option (List Event)
planned_if true events = Some events
planned_if false events = None

-- the desk that keeps an hour
abbrev pub desk_of : HourState → (is_planned : Bool) → DeskState
desk_of kept is_planned = record {
  hour = kept.board.hour;
  grid = kept.board.grid;
  settled = kept.settled;
  planned = planned_if is_planned kept.board.events;
}

-- the hour has its seven parts and no order in hand, and nothing is left to trade in it as it is settled and as it
-- is planned; what is kept for its views is of the hour as it is settled, and what is next of the hour as it is
-- planned; where nothing is planned nothing is next
pub record IsInside (kept : HourState) (shown : views.DeskState) (is_planned : Bool) : Type 0 where
  pub seven : kept.board.parts ≡ 7
  pub free : kept.board.hand ≡ None
  pub settled : IsSettled kept.board.grid kept.board.hour kept.settled
  pub quiet : IsSettled kept.board.grid kept.board.hour kept.board.events
  pub stands : StandAt (settled_board kept) shown
  pub next : IsNext kept.board shown
  pub unplanned : is_planned ≡ false → kept.board.events ≡ kept.settled
  pub none_next : is_planned ≡ false → views.forgotten shown ≡ shown
