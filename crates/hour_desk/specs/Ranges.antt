-- Commands over a range of hours.
use Rattle.std.specs.Prelude.{Option, None}
use Rattle.std.specs.Option.{option_map}
use Rattle.zone_graph.specs.Graph.{Graph, HasArc}
use Rattle.zone_graph.specs.Grid.{arc_between}
use Rattle.market_model.specs.declared.command.Command.{Command}
use Rattle.market_model.specs.declared.command.Command.TheVariants as command
use Rattle.market_model.specs.declared.refusal.Refusal.{Refusal}
use Rattle.market_model.specs.Asked.{first_in_hour}
use Rattle.market_model.specs.Refusals.{below_flow, no_room}
use Rattle.hour_desk.specs.declared.part_work.PartWork.{PartWork}
use Rattle.hour_desk.specs.declared.part_work.PartWork.TheVariants as work
use Rattle.hour_desk.specs.Desk.{DeskState}

-- a command is over a range of hours: one event that they share
abbrev pub IsOverRange : Command → Type 0
IsOverRange (command.Offer from to first last lots) = Unit {0}
IsOverRange (command.Request from to first last lots) = Unit {0}
IsOverRange (command.Halt from to first last) = Unit {0}
IsOverRange (command.Resume from to first last) = Unit {0}
IsOverRange _ = ⊥

-- what each hour of the range of a command shares, where there is an arc for it
abbrev pub range_work : Graph → Command → Option PartWork
range_work graph (command.Offer from to first last lots) = option_map (λ arc. work.Offer arc first last lots) (arc_between graph from to)
range_work graph (command.Request from to first last lots) = option_map (λ arc. work.Grant arc first last lots) (arc_between graph from to)
range_work graph (command.Halt from to first last) = option_map (λ arc. work.Halt arc.border first last) (arc_between graph from to)
range_work graph (command.Resume from to first last) = option_map (λ arc. work.Resume arc.border first last) (arc_between graph from to)
range_work graph given = None

-- the arc of an offer or a request is one of a grid
abbrev pub IsOnArc : Graph → PartWork → Type 0
IsOnArc graph (work.Offer arc first last lots) = HasArc graph arc
IsOnArc graph (work.Grant arc first last lots) = HasArc graph arc
IsOnArc graph given = Unit {0}

-- what refuses an hour's part of it: the first quarter in which more flows than is offered, or in which there is less
-- room than is asked for
abbrev pub part_refusal : PartWork → DeskState → Option Refusal
part_refusal (work.Offer arc first last lots) desk =
    first_in_hour (below_flow desk.settled arc lots) (record { arc = arc; first = first; last = last; lots = lots }) desk.hour
part_refusal (work.Grant arc first last lots) desk =
    first_in_hour (no_room desk.settled arc lots) (record { arc = arc; first = first; last = last; lots = lots }) desk.hour
part_refusal given desk = None
