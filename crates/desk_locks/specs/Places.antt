-- The places of a row of desks, and when a desk and its seat are in their place.
use Rattle.std.specs.Prelude.{◌≡◌, ℕ, List, [], map, None}
use Rattle.order_kinds.specs.Period.{hours_from}
use Rattle.zone_graph.specs.Graph.{Graph}
use Rattle.market_model.specs.Concerned.{left_for}
use Rattle.market_model.specs.Grid.{graph_of}
use Rattle.joint_plan.specs.Desk.{DeskState}
use Rattle.trade_journal.specs.Journals.{IsJournal}
use Rattle.journal_front.specs.Fronts.{DeskSeatState, FrontState, IsDeskOf, desk_of}

-- a place of a row: the front whose seats the row has, and the hour
pub record Place : Type 0 where
  pub front : FrontState
  pub hour : ℕ

-- the place of a seat
abbrev pub place_of_seat : DeskSeatState → Place
place_of_seat seat = record { front = record { id = seat.front; setup = seat.setup }; hour = seat.hour }

-- the place of an hour of a front
abbrev pub place_at : FrontState → (hour : ℕ) → Place
place_at front hour = record { front = front; hour = hour }

-- the row of a front: a place for each hour, ascending
abbrev pub row_of : FrontState → List Place
row_of front = map (place_at front) (hours_from 1 front.setup.hours)

-- the seats with which a row of a front begins: one for each hour, ascending, each with the empty list
abbrev pub AreFirstSeats : FrontState → List DeskSeatState → Type 0
AreFirstSeats front seats = seats ≡ map (desk_of front []) (hours_from 1 front.setup.hours)

-- a grid is that of the setup of a front
abbrev pub IsGridOf : FrontState → Graph → Type 0
IsGridOf front graph = graph ≡ graph_of front.setup

-- a desk and a seat are in their place: nothing is planned, both are of its hour, the seat is of its front and
-- the desk over the front's grid, the seat's list is a legal journal of the front's setup, and what is settled is
-- what this journal leaves for the hour
pub record AreInPlace (place : Place) (desk : DeskState) (seat : DeskSeatState) : Type 0 where
  pub unplanned : desk.planned ≡ None
  pub desk_hour : desk.hour ≡ place.hour
  pub seat_hour : seat.hour ≡ place.hour
  pub own : IsDeskOf place.front seat
  pub over : IsGridOf place.front desk.grid
  pub journal : IsJournal (record { setup = place.front.setup; entries = seat.entries })
  pub left : desk.settled ≡ left_for place.hour seat.entries
