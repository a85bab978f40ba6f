-- Histories and commands without half hours.
use Rattle.std.specs.Prelude.{◌≡◌, ℕ, false, List}
use Rattle.std.specs.List.{list_any}
use Rattle.order_kinds.specs.declared.contract.Part.{Part}
use Rattle.zone_graph.specs.Route.{IsIn}
use Rattle.market_model.specs.declared.command.Command.{Command}
use Rattle.market_model.specs.declared.event.Event.{Event}
use Rattle.market_model.specs.declared.event.Event.TheVariants as event
use Rattle.market_model.specs.declared.setup.Setup.{Setup}
use Rattle.market_model.specs.HistoryLaws.{is_half}
use Rattle.market_model.specs.History.{events_of}
use Rattle.market_model.specs.Market.{reply_by}
use Rattle.market_model.specs.Rules.{parts_named}
use Rattle.market_model.specs.Sweep.{all_parts, parts_without_halves}

-- no order of a half hour enters by an event
abbrev pub IsHalfless : Event → Type 0
IsHalfless (event.Entered name caller order) = is_half order.contract.part ≡ false
IsHalfless _ = Unit {0}

-- none enters by any of some events
abbrev pub AreHalfless : List Event → Type 0
AreHalfless events = (event : Event) → IsIn event events → IsHalfless event

-- a command names no half hour
abbrev pub NamesNoHalf : Command → Type 0
NamesNoHalf given = list_any is_half (parts_named given) ≡ false

-- the reply to such a command after such a history is the same in a market without half hours
abbrev pub HalvesChangeNoOtherReply : Type 0
HalvesChangeNoOtherReply = (setup : Setup) (events : List Event) (caller : ℕ) (given : Command) → AreHalfless events → NamesNoHalf given
    → reply_by all_parts setup events caller given ≡ reply_by parts_without_halves setup events caller given

-- and by it no order of a half hour enters
abbrev pub RepliesStayHalfless : Type 0
RepliesStayHalfless = (setup : Setup) (parts : List Part) (events : List Event) (caller : ℕ) (given : Command) → NamesNoHalf given
    → AreHalfless (events_of (reply_by parts setup events caller given))
