-- What each hour has by itself.
use Rattle.std.specs.Prelude.{ℕ, List}
use Rattle.market_model.specs.declared.event.Event.{Event}
use Rattle.market_model.specs.History.{of_hour}

-- the events of each hour of a history
abbrev pub hour_events : List Event → (hour : ℕ) → List Event
hour_events history hour = of_hour hour history
