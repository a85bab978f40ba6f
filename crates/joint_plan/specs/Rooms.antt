-- The rooms of a period, told by the desks of its hours.
use Rattle.std.specs.Prelude.{◌≡◌, ℕ, ◌-◌, ◌<◌, ◌≤◌, ◌^◌, List, count_by, length, map}
use Rattle.quarter_capacity.specs.Capacity.{most_remaining}
use Rattle.zone_graph.specs.declared.route.Arc.{Arc}
use Rattle.zone_graph.specs.Graph.{Graph, HasArc, border_count}
use Rattle.zone_graph.specs.Rooms.{room_of}
use Rattle.market_model.specs.History.{enters_in}
use Rattle.market_model.specs.Room.{least}
use Rattle.laws_of_joint_commands.specs.PeriodRooms.{hour_room}
use Rattle.hour_desk.specs.Periods.{IsFirstOfPeriod}
use Rattle.hour_desk.specs.Desk.{DeskState}

-- the room of an arc in the hour of a desk
abbrev pub room_at : Arc → DeskState → ℕ
room_at arc desk = hour_room desk.settled desk.hour arc

-- rooms are those of a grid over the hours of some desks
pub record AreRoomsOver (graph : Graph) (desks : List DeskState) (rooms : List (ℕ × ℕ)) : Type 0 where
  pub size : length rooms ≡ border_count graph
  pub are : (arc : Arc) → HasArc graph arc → room_of rooms arc ≡ least (map (room_at arc) desks)
  pub most : (arc : Arc) → HasArc graph arc → room_of rooms arc ≤ most_remaining

-- a desk can match the resting blocks of the period that begins with its hour
pub record CanMatch (graph : Graph) (last : ℕ) (rooms : List (ℕ × ℕ)) (desk : DeskState) : Type 0 where
  pub over : graph ≡ desk.grid
  pub numbers : count_by (enters_in desk.hour) desk.settled < 2 ^ 32 - 1
  pub size : length rooms ≡ border_count desk.grid
  pub period : IsFirstOfPeriod desk.grid desk.hour last desk.settled rooms
