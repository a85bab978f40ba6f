-- The part of a list of events that is looked at for one hour.
use Rattle.std.specs.Prelude.{◌≡◌, ℕ, Bool, true, false, List, filter}
use Rattle.market_model.specs.declared.event.Event.{Event}
use Rattle.market_model.specs.declared.event.Event.TheVariants as event
use Rattle.market_model.specs.History.{touches}

-- some of the events, in order, among them all that touch an hour
pub record IsNear (hour : ℕ) (events near : List Event) : Type 0 where
  pub keeps : Event → Bool
  pub some : near ≡ filter keeps events
  pub all : (event : Event) → touches hour event ≡ true → keeps event ≡ true

-- an event moves an hour to a later phase
abbrev pub is_gate : Event → Bool
is_gate (event.Gated hour phase) = true
is_gate _ = false

-- those of the events that are gates, in order
abbrev pub AreGates : (events gates : List Event) → Type 0
AreGates events gates = gates ≡ filter is_gate events
