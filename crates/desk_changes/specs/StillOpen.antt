-- What is open of an hour, with what is needed to withdraw it.
use Rattle.std.specs.Prelude.{◌≡◌, ℕ, ◌≤◌, List, map, Option, Some, None, if◌then◌else◌}
use Rattle.std.specs.List.{filter_map}
use Rattle.order_kinds.specs.declared.order.OrderName.{OrderName}
use Rattle.order_kinds.specs.Contract.{part_number}
use Rattle.zone_graph.specs.Route.{AreDifferent, IsIn}
use Rattle.market_model.specs.declared.event.Event.{Event}
use Rattle.market_model.specs.declared.event.Event.TheVariants as event
use Rattle.market_model.specs.Board.{BoardState, IsHourOf}
use Rattle.market_model.specs.Orders.{Placed, is_open, left, placed}
use Rattle.desk_changes.specs.declared.still_open.StillOpen.{StillOpen}
use Rattle.desk_changes.specs.Quiet.{HasNoLeg}

-- an order or block of a name and a part, where it is open
abbrev pub open_one : List Event → OrderName → (part : ℕ) → Option StillOpen
open_one events name part = if is_open events name then Some (record { number = name.number; part = part; lots = left events name }) else None

-- what an event enters, where it is open after some events
abbrev pub open_by : List Event → Event → Option StillOpen
open_by events (event.Entered name caller order) = open_one events name (part_number order.contract.part)
open_by events (event.EnteredBlock name caller order) = open_one events name 0
open_by events _ = None

-- what some events enter, where it is open, in order of entry
abbrev pub open_in : (events : List Event) → (entering : List Event) → List StillOpen
open_in events entering = filter_map (open_by events) entering

-- the name by which it is open, and its withdrawal
abbrev pub name_of : (hour : ℕ) → StillOpen → OrderName
name_of hour item = record { hour = hour; number = item.number }

abbrev pub withdrawal : (hour : ℕ) → StillOpen → Event
withdrawal hour item = event.Withdrawn (name_of hour item) item.lots

-- it is open: so many lots are left of it, and an order of its name is one of its part
pub record IsStillOpen (events : List Event) (hour : ℕ) (item : StillOpen) : Type 0 where
  pub some : 1 ≤ item.lots
  pub lots : item.lots ≡ left events (name_of hour item)
  pub part : (order : Placed) → IsIn order (placed events) → order.name ≡ name_of hour item → part_number order.order.contract.part ≡ item.part

-- some orders and blocks of an hour can be withdrawn one after the other, and nothing trades there
pub record CanEnd (board : BoardState) (items : List StillOpen) : Type 0 where
  pub stands : IsHourOf board.grid board.hour board.events
  pub quiet : HasNoLeg board.grid board.hour board.events
  pub each : (item : StillOpen) → IsIn item items → IsStillOpen board.events board.hour item
  pub different : AreDifferent (map (name_of board.hour) items)
