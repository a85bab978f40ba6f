-- The rules on the state of orders, hours and capacity, told by each hour's own events.
use Rattle.std.specs.Prelude.{◌≡◌, ℕ, ◌&&◌, List, [], ◌∷◌, filter, Option, None}
use Rattle.std.specs.List.{find}
use Rattle.std.specs.Option.{option_and_then, option_map}
use Rattle.order_kinds.specs.declared.contract.Quarter.{Quarter}
use Rattle.order_kinds.specs.Period.{hour_quarters, hours_from, is_not_after}
use Rattle.zone_graph.specs.Graph.{Graph}
use Rattle.zone_graph.specs.Grid.{arc_between}
use Rattle.market_model.specs.declared.command.Command.{Command}
use Rattle.market_model.specs.declared.command.Command.TheVariants as command
use Rattle.market_model.specs.declared.event.Event.{Event}
use Rattle.market_model.specs.declared.refusal.Refusal.{Refusal}
use Rattle.market_model.specs.declared.refusal.Refusal.TheVariants as refusal
use Rattle.market_model.specs.declared.setup.Setup.{Setup}
use Rattle.market_model.specs.Refusals.{below_flow, closed_hour, gate_refusal, no_room, offer_refusal, order_is_known, reduces, request_refusal}
use Rattle.market_model.specs.Room.{is_closed_phase, phase_of}
use Rattle.market_model.specs.Rules.{first_broken, hours_concerned, unless}
use Rattle.market_model.specs.Sweep.{first_answer}
use Rattle.market_model.specs.WellFormed.{FitAfter}
use Rattle.market_model.specs.StateRules.{state_refusal}
use Rattle.laws_of_joint_commands.specs.ByHour.{hour_events}

-- the first closed hour of those that a command concerns, each told by its own events
abbrev pub first_closed : (own : ℕ → List Event) → Command → Option ℕ
first_closed own (command.Gate hour phase) = None
first_closed own (command.View contract side zone) = None
first_closed own given = find (λ hour. is_closed_phase (phase_of (own hour) hour)) (hours_concerned given)

-- the quarters of an hour that are in a range
abbrev pub quarters_of_range : (first last : Quarter) → (hour : ℕ) → List Quarter
quarters_of_range first last hour = filter (λ quarter. is_not_after first quarter && is_not_after quarter last) (hour_quarters hour)

-- the first answer over the hours of a range of what the events of one say of its quarters in the range
abbrev pub first_over_hours : (own : ℕ → List Event) → (says : List Event → Quarter → Option Refusal) → (first last : Quarter) → Option Refusal
first_over_hours own says first last =
    first_answer (λ hour. first_answer (says (own hour)) (quarters_of_range first last hour)) (hours_from first.hour last.hour)

-- what refuses an offer: the first quarter in which more flows than is offered
abbrev pub offer_refused : Graph → (own : ℕ → List Event) → Command → Option Refusal
offer_refused graph own (command.Offer from to first last lots) =
    option_and_then (λ arc. first_over_hours own (λ events. below_flow events arc lots) first last) (arc_between graph from to)
offer_refused graph own _ = None

-- what refuses a request: the first quarter in which there is less room than is asked for
abbrev pub request_refused : Graph → (own : ℕ → List Event) → Command → Option Refusal
request_refused graph own (command.Request from to first last lots) =
    option_and_then (λ arc. first_over_hours own (λ events. no_room events arc lots) first last) (arc_between graph from to)
request_refused graph own _ = None

-- the first of some hours
abbrev pub first_of : List ℕ → ℕ
first_of [] = 0
first_of (hour ∷ hours) = hour

-- the first rule on the state that is broken: what is asked of one hour is told by the events of that hour, and
-- what is asked of several by those of each
unfoldable pub state_refusal_by : Graph → (own : ℕ → List Event) → (caller : ℕ) → Command → Option Refusal
state_refusal_by graph own caller given =
    let its_own = own (first_of (hours_concerned given)) in
    first_broken (
    (λ _. unless (reduces its_own caller given) refusal.QuantityOutOfRange)
    ∷ (λ _. option_map (λ hour. refusal.Closed hour) (first_closed own given))
    ∷ (λ _. gate_refusal its_own given)
    ∷ (λ _. unless (order_is_known its_own caller given) refusal.UnknownOrder)
    ∷ (λ _. offer_refused graph own given)
    ∷ (λ _. request_refused graph own given)
    ∷ [])

-- the first closed hour of a command is told by the hours' own events
abbrev pub HoursAreClosedByThemselves : Type 0
HoursAreClosedByThemselves = (setup : Setup) (history : List Event) (given : Command) → FitAfter setup [] history
    → closed_hour history given ≡ first_closed (hour_events history) given

-- so is what refuses an offer
abbrev pub OffersAreRefusedHourByHour : Type 0
OffersAreRefusedHourByHour = (setup : Setup) (graph : Graph) (history : List Event) (given : Command) → FitAfter setup [] history
    → offer_refusal graph history given ≡ offer_refused graph (hour_events history) given

-- and a request
abbrev pub RequestsAreRefusedHourByHour : Type 0
RequestsAreRefusedHourByHour = (setup : Setup) (graph : Graph) (history : List Event) (given : Command) → FitAfter setup [] history
    → request_refusal graph history given ≡ request_refused graph (hour_events history) given

-- so a command is refused by a rule on the state as the hours' own events tell
abbrev pub StateRefusesHourByHour : Type 0
StateRefusesHourByHour = (setup : Setup) (graph : Graph) (history : List Event) (caller : ℕ) (given : Command) → FitAfter setup [] history
    → state_refusal graph history caller given ≡ state_refusal_by graph (hour_events history) caller given
