-- What the events of some hours say by themselves: all that concerns these hours. They are no
-- well-formed history: a leg of blocks can name a block of another hour. The laws ask of the whole
-- history only that each of its events fits the ones before it.
use Rattle.std.specs.Prelude.{◌≡◌, ℕ, List, [], filter}
use Rattle.std.specs.List.{list_any}
use Rattle.order_kinds.specs.declared.contract.Contract.{Contract}
use Rattle.order_kinds.specs.declared.contract.Part.{Part}
use Rattle.order_kinds.specs.declared.order.OrderName.{OrderName}
use Rattle.order_kinds.specs.declared.side.Side.{Side}
use Rattle.order_kinds.specs.Period.{contract_quarters}
use Rattle.zone_graph.specs.Graph.{Graph}
use Rattle.zone_graph.specs.Route.{IsIn}
use Rattle.market_model.specs.declared.command.Command.{Command}
use Rattle.market_model.specs.declared.event.Event.{Event}
use Rattle.market_model.specs.declared.setup.Setup.{Setup}
use Rattle.market_model.specs.Blocks.{block_line}
use Rattle.market_model.specs.History.{of_hour, touches}
use Rattle.market_model.specs.Lines.{line}
use Rattle.market_model.specs.Market.{reply_by}
use Rattle.market_model.specs.Room.{room}
use Rattle.market_model.specs.Rules.{touched_hours}
use Rattle.market_model.specs.Sweep.{sweep}
use Rattle.market_model.specs.Taking.{take}
use Rattle.market_model.specs.WellFormed.{FitAfter}

-- the events of some hours: those that touch one of them, in order
abbrev pub of_hours : (hours : List ℕ) → List Event → List Event
of_hours hours events = filter (λ event. list_any (λ hour. touches hour event) hours) events

-- a command has the same reply after the events of the hours that it touches alone
abbrev pub HoursAnswerAlone : Type 0
HoursAnswerAlone = (setup : Setup) (parts : List Part) (events : List Event) (caller : ℕ) (given : Command) → FitAfter setup [] events
    → reply_by parts setup (of_hours (touched_hours setup caller given) events) caller given ≡ reply_by parts setup events caller given

-- and one that touches no other hour, after the events of this one
abbrev pub OneHourAnswersAlone : Type 0
OneHourAnswersAlone = (setup : Setup) (parts : List Part) (events : List Event) (caller : ℕ) (given : Command) (hour : ℕ) → FitAfter setup [] events
    → ((other : ℕ) → IsIn other (touched_hours setup caller given) → other ≡ hour)
    → reply_by parts setup (of_hour hour events) caller given ≡ reply_by parts setup events caller given

-- the lines of an hour's contracts and the rooms over their quarters
abbrev pub LinesStandAlone : Type 0
LinesStandAlone = (setup : Setup) (events : List Event) (contract : Contract) (side : Side) → FitAfter setup [] events
    → (line (of_hour contract.hour events) contract side ≡ line events contract side)
    × (room (of_hour contract.hour events) (contract_quarters contract) ≡ room events (contract_quarters contract))

-- and the lines of the blocks that start in it
abbrev pub BlockLinesStandAlone : Type 0
BlockLinesStandAlone = (setup : Setup) (events : List Event) (first last : ℕ) (side : Side) → FitAfter setup [] events
    → block_line (of_hour first events) first last side ≡ block_line events first last side

-- the legs that an order takes
abbrev pub TakingsStandAlone : Type 0
TakingsStandAlone = (setup : Setup) (graph : Graph) (events : List Event) (name : OrderName) → FitAfter setup [] events
    → take graph (of_hour name.hour events) name ≡ take graph events name

-- the legs of the sweep of an hour
abbrev pub SweepsStandAlone : Type 0
SweepsStandAlone = (setup : Setup) (parts : List Part) (graph : Graph) (events : List Event) (hour : ℕ) → FitAfter setup [] events
    → sweep parts graph hour (of_hour hour events) ≡ sweep parts graph hour events
