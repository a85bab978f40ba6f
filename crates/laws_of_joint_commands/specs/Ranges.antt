-- A command over a range of hours: one event that they share, and then the sweep of each.
use Rattle.std.specs.Prelude.{◌≡◌, ℕ, List, [], ◌∷◌, flat_map, true, Option, Some, None, if◌then◌else◌}
use Rattle.std.specs.Option.{option_map}
use Rattle.order_kinds.specs.declared.contract.Part.{Part}
use Rattle.zone_graph.specs.Graph.{Graph}
use Rattle.zone_graph.specs.Grid.{arc_between}
use Rattle.zone_graph.specs.Route.{has}
use Rattle.market_model.specs.declared.command.Command.{Command}
use Rattle.market_model.specs.declared.command.Command.TheVariants as command
use Rattle.market_model.specs.declared.event.Event.{Event}
use Rattle.market_model.specs.declared.event.Event.TheVariants as event
use Rattle.market_model.specs.declared.reply.Reply.TheVariants as reply
use Rattle.market_model.specs.declared.setup.Setup.{Setup}
use Rattle.market_model.specs.Grid.{graph_of}
use Rattle.market_model.specs.History.{and_then, events_of, of_hour, touches}
use Rattle.market_model.specs.Market.{reply_by, then_sweeps}
use Rattle.market_model.specs.Refusals.{refusal_of_command}
use Rattle.market_model.specs.Rules.{ascends, hours_concerned}
use Rattle.market_model.specs.Sweep.{sweep}
use Rattle.market_model.specs.WellFormed.{FitAfter}

-- the event of a command over a range of hours, where there is an arc for it: an offer, a request, a halt or
-- a resumption
abbrev pub shared_event : Graph → Command → Option Event
shared_event graph (command.Offer from to first last lots) = option_map (λ arc. event.Offered arc first last lots) (arc_between graph from to)
shared_event graph (command.Request from to first last lots) = option_map (λ arc. event.Granted arc first last lots) (arc_between graph from to)
shared_event graph (command.Halt from to first last) = option_map (λ arc. event.Halted arc.border first last) (arc_between graph from to)
shared_event graph (command.Resume from to first last) = option_map (λ arc. event.Resumed arc.border first last) (arc_between graph from to)
shared_event graph _ = None

-- an event touches these hours and no others
abbrev pub TouchesJust : (hours : List ℕ) → Event → Type 0
TouchesJust hours shared = (hour : ℕ) → touches hour shared ≡ has hour hours

-- what an hour does after an event that it shares: it sweeps, after its own events and that one
abbrev pub swept_after : List Part → Graph → List Event → Event → (hour : ℕ) → List Event
swept_after parts graph history shared hour = sweep parts graph hour (and_then (of_hour hour history) shared)

-- such a command touches the hours that it concerns and no others, and they ascend
abbrev pub RangesTouchTheirHours : Type 0
RangesTouchTheirHours = (graph : Graph) (given : Command) (shared : Event) → shared_event graph given ≡ Some shared
    → TouchesJust (hours_concerned given) shared × (ascends (hours_concerned given) ≡ true)

-- the sweeps after an event that all of some hours share are those of each hour after its own events and
-- that one
abbrev pub SharedEventsAreSweptHourByHour : Type 0
SharedEventsAreSweptHourByHour = (setup : Setup) (parts : List Part) (graph : Graph) (hours : List ℕ) (history : List Event) (shared : Event)
    → FitAfter setup [] (and_then history shared) → ascends hours ≡ true → TouchesJust hours shared
    → then_sweeps parts graph hours history shared ≡ shared ∷ flat_map (swept_after parts graph history shared) hours

-- of it each of the hours has the event and its own sweep, and any other hour nothing
abbrev pub SharedEventsOfAnHour : Type 0
SharedEventsOfAnHour = (setup : Setup) (parts : List Part) (graph : Graph) (hours : List ℕ) (history : List Event) (shared : Event) (hour : ℕ)
    → FitAfter setup [] (and_then history shared) → ascends hours ≡ true → TouchesJust hours shared
    → of_hour hour (then_sweeps parts graph hours history shared) ≡ (if has hour hours then shared ∷ swept_after parts graph history shared hour else [])

-- so a command over a range that no rule refuses is done: its event once, and then each hour's own sweep
abbrev pub RangesAreDoneHourByHour : Type 0
RangesAreDoneHourByHour = (setup : Setup) (parts : List Part) (history : List Event) (caller : ℕ) (given : Command) (shared : Event)
    → FitAfter setup [] history → refusal_of_command setup history caller given ≡ None → shared_event (graph_of setup) given ≡ Some shared
    → reply_by parts setup history caller given ≡ reply.Done (shared ∷ flat_map (swept_after parts (graph_of setup) history shared) (hours_concerned given))

-- and each hour of the range has of the reply the event and its own sweep, and any other hour nothing
abbrev pub RangesOfAnHour : Type 0
RangesOfAnHour = (setup : Setup) (parts : List Part) (history : List Event) (caller : ℕ) (given : Command) (shared : Event) (hour : ℕ)
    → FitAfter setup [] history → refusal_of_command setup history caller given ≡ None → shared_event (graph_of setup) given ≡ Some shared
    → of_hour hour (events_of (reply_by parts setup history caller given))
    ≡ (if has hour (hours_concerned given) then shared ∷ swept_after parts (graph_of setup) history shared hour else [])
