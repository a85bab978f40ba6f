-- The parts of the hours of a command.
use Rattle.std.specs.Prelude.{◌≡◌, ◌-◌, ◌<◌, ◌^◌, List, [], ◌∷◌, ◌++◌, count_by, flat_map}
use Rattle.zone_graph.specs.Graph.{Graph}
use Rattle.market_model.specs.declared.event.Event.{Event}
use Rattle.market_model.specs.History.{enters_in}
use Rattle.market_model.specs.Sweep.{all_parts, sweep}
use Rattle.hour_desk.specs.declared.part_work.PartWork.{PartWork}
use Rattle.hour_desk.specs.Desk.{DeskState, planning}
use Rattle.hour_desk.specs.Shared.{CanShare, part_events, shared_events}

-- a desk can plan its part of some work
pub record CanPlanPart (graph : Graph) (given : PartWork) (desk : DeskState) : Type 0 where
  pub over : graph ≡ desk.grid
  pub numbers : count_by (enters_in desk.hour) desk.settled < 2 ^ 32 - 1
  pub can : CanShare desk given

-- the desk that plans it
abbrev pub with_part : PartWork → DeskState → DeskState
with_part given desk = planning desk (part_events desk given)

-- the sweep of a desk's hour after what it shares
abbrev pub swept : PartWork → DeskState → List Event
swept given desk = sweep all_parts desk.grid desk.hour (desk.settled ++ shared_events desk.settled given)

-- the events of some work over several hours: those of the first, and then the sweeps of the others
abbrev pub events_over : PartWork → List DeskState → List Event
events_over given [] = []
events_over given (desk ∷ desks) = part_events desk given ++ flat_map (swept given) desks
