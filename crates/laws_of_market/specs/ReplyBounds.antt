-- What bounds every reply.
use Rattle.std.specs.Prelude.{ℕ, ◌≤◌, List}
use Rattle.market_model.specs.declared.command.Command.{Command}
use Rattle.market_model.specs.declared.event.Event.{Event}
use Rattle.market_model.specs.declared.setup.Setup.{Setup}
use Rattle.market_model.specs.History.{entered_count, events_of}
use Rattle.market_model.specs.Market.{reply_to}
use Rattle.market_model.specs.Naming.{IsReplyIn}
use Rattle.market_model.specs.WellFormed.{IsHistory, IsMarketSetup}

-- a reply enters at most eight orders and blocks
abbrev pub RepliesEnterFew : Type 0
RepliesEnterFew = (setup : Setup) (events : List Event) (caller : ℕ) (given : Command)
    → entered_count (events_of (reply_to setup events caller given)) ≤ 8

-- a reply after a well-formed history names zones and borders of the setup alone
abbrev pub RepliesNameTheSetup : Type 0
RepliesNameTheSetup = (setup : Setup) (events : List Event) (caller : ℕ) (given : Command) → IsMarketSetup setup → IsHistory setup events
    → IsReplyIn setup (reply_to setup events caller given)
