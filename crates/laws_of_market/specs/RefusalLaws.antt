-- What is true of refusals.
use Rattle.std.specs.Prelude.{◌≡◌, ℕ, ◌<◌, true, List, length, Some}
use Rattle.market_model.specs.declared.command.Command.{Command}
use Rattle.market_model.specs.declared.event.Event.{Event}
use Rattle.market_model.specs.declared.refusal.Refusal.{Refusal}
use Rattle.market_model.specs.declared.setup.Setup.{Setup}
use Rattle.market_model.specs.RefusalTable.{can_refuse, rule_of}
use Rattle.market_model.specs.Refusals.{refusal_of_command}

-- a command is refused only by the rules that the table has for it
abbrev pub OnlyItsRulesRefuse : Type 0
OnlyItsRulesRefuse = (setup : Setup) (events : List Event) (caller : ℕ) (given : Command) (broken : Refusal) → caller < length setup.callers
    → refusal_of_command setup events caller given ≡ Some broken → can_refuse given (rule_of broken) ≡ true
