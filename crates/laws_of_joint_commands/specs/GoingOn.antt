-- How a history goes on in each of its hours.
use Rattle.std.specs.Prelude.{◌≡◌, ℕ, List, [], ◌++◌}
use Rattle.order_kinds.specs.declared.contract.Part.{Part}
use Rattle.market_model.specs.declared.command.Command.{Command}
use Rattle.market_model.specs.declared.event.Event.{Event}
use Rattle.market_model.specs.declared.setup.Setup.{Setup}
use Rattle.market_model.specs.Board.{IsHourOf}
use Rattle.market_model.specs.Grid.{graph_of}
use Rattle.market_model.specs.History.{events_of, of_hour}
use Rattle.market_model.specs.Market.{reply_by}
use Rattle.market_model.specs.WellFormed.{FitAfter, IsHistory, IsMarketSetup}
use Rattle.laws_of_boards.specs.Hours.{IsHourIn}
use Rattle.laws_of_joint_commands.specs.ByHour.{hour_events}

-- a history goes on with more events, and each hour with those of them that it has: the hour's events and each
-- first part of these are the events of the hour of some history
pub record GoesOnInHours (setup : Setup) (history more : List Event) (its : (hour : ℕ) → List Event) : Type 0 where
  pub own : (hour : ℕ) → of_hour hour more ≡ its hour
  pub hours : (hour : ℕ) → IsHourIn setup hour (history ++ more) (of_hour hour history ++ its hour)
  pub parts : (hour : ℕ) (some rest : List Event) → its hour ≡ some ++ rest → IsHourOf (graph_of setup) hour (of_hour hour history ++ some)

-- so it is with all events that fit
abbrev pub FittingEventsGoOnInHours : Type 0
FittingEventsGoOnInHours = (setup : Setup) (history more : List Event) → IsMarketSetup setup → FitAfter setup [] (history ++ more)
    → GoesOnInHours setup history more (hour_events more)

-- and with every reply
abbrev pub RepliesGoOnInHours : Type 0
RepliesGoOnInHours = (setup : Setup) (parts : List Part) (history : List Event) (caller : ℕ) (given : Command) → IsMarketSetup setup → IsHistory setup history
    → let events = events_of (reply_by parts setup history caller given) in GoesOnInHours setup history events (hour_events events)
