-- What a reply to a command depends on, after any well-formed histories.
use Rattle.std.specs.Prelude.{◌≡◌, ℕ, true, List}
use Rattle.order_kinds.specs.declared.contract.Part.{Part}
use Rattle.zone_graph.specs.Route.{IsIn}
use Rattle.market_model.specs.declared.command.Command.{Command}
use Rattle.market_model.specs.declared.event.Event.{Event}
use Rattle.market_model.specs.declared.setup.Setup.{Setup}
use Rattle.market_model.specs.History.{events_of, of_hour, touches}
use Rattle.market_model.specs.Market.{reply_by}
use Rattle.market_model.specs.Rules.{touched_hours}
use Rattle.market_model.specs.WellFormed.{IsHistory}

-- two well-formed histories with the same events of the hours that a command touches, in order, give
-- it the same reply
abbrev pub TouchedHoursDecide : Type 0
TouchedHoursDecide = (setup : Setup) (parts : List Part) (events others : List Event) (caller : ℕ) (given : Command)
    → IsHistory setup events → IsHistory setup others
    → ((hour : ℕ) → IsIn hour (touched_hours setup caller given) → of_hour hour events ≡ of_hour hour others)
    → reply_by parts setup events caller given ≡ reply_by parts setup others caller given

-- no event of a reply touches another hour
abbrev pub RepliesStayWithin : Type 0
RepliesStayWithin = (setup : Setup) (parts : List Part) (events : List Event) (caller : ℕ) (given : Command) (event : Event) (hour : ℕ)
    → IsHistory setup events → IsIn event (events_of (reply_by parts setup events caller given)) → touches hour event ≡ true
    → IsIn hour (touched_hours setup caller given)
