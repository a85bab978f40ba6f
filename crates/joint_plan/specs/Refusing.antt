-- What refuses a command by the state of the hours that it touches, told by their desks.
use Rattle.std.specs.Prelude.{Bool, List, find, Option}
use Rattle.std.specs.Option.{option_and_then, option_map}
use Rattle.zone_graph.specs.Graph.{Graph}
use Rattle.market_model.specs.declared.command.Command.{Command}
use Rattle.market_model.specs.declared.refusal.Refusal.{Refusal}
use Rattle.market_model.specs.declared.refusal.Refusal.TheVariants as refusal
use Rattle.market_model.specs.Room.{is_closed_phase, phase_of}
use Rattle.market_model.specs.Sweep.{first_answer, or_else}
use Rattle.hour_desk.specs.Desk.{DeskState}
use Rattle.hour_desk.specs.Ranges.{part_refusal, range_work}

-- the hour of a desk is closed
abbrev pub is_closed : DeskState → Bool
is_closed desk = is_closed_phase (phase_of desk.settled desk.hour)

-- the refusal by the first hour that is closed
abbrev pub closed_refusal : List DeskState → Option Refusal
closed_refusal desks = option_map (λ desk. refusal.Closed desk.hour) (find is_closed desks)

-- what refuses a command by its capacity: the first hour that refuses its part
abbrev pub capacity_refusal : Graph → Command → List DeskState → Option Refusal
capacity_refusal graph given desks = option_and_then (λ w. first_answer (part_refusal w) desks) (range_work graph given)

-- a closed hour comes first, and then the capacity
abbrev pub state_refusal : Graph → Command → List DeskState → Option Refusal
state_refusal graph given desks = or_else (closed_refusal desks) (λ _. capacity_refusal graph given desks)
