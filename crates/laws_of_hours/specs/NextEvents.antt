-- The next event of an hour: where the events of an hour, and one more, are those of the hour of some
-- history, the last one fits a history whose hour the others are.
use Rattle.std.specs.Prelude.{◌≡◌, ℕ, true, List, [], ◌++◌}
use Rattle.zone_graph.specs.Graph.{Graph, IsGraph}
use Rattle.market_model.specs.declared.event.Event.{Event}
use Rattle.market_model.specs.declared.setup.Setup.{Setup}
use Rattle.market_model.specs.Board.{IsHourOf}
use Rattle.market_model.specs.Grid.{graph_of}
use Rattle.market_model.specs.History.{and_then, of_hour, touches}
use Rattle.market_model.specs.WellFormed.{FitAfter, Fits, IsMarketSetup}

-- an event touches the hour, and fits some history over the grid whose hour has these events
pub record IsNext (graph : Graph) (hour : ℕ) (events : List Event) (event : Event) : Type 0 where
  pub setup : Setup
  pub history : List Event
  pub over_grid : graph_of setup ≡ graph
  pub is_setup : IsMarketSetup setup
  pub fit : FitAfter setup [] history
  pub in_hour : of_hour hour history ≡ events
  pub fits : Fits setup history event
  pub touched : touches hour event ≡ true

-- the last event of an hour is the next one of those before it
abbrev pub NextEventsFit : Type 0
NextEventsFit = (graph : Graph) (hour : ℕ) (events : List Event) (event : Event) → IsHourOf graph hour (and_then events event) → IsNext graph hour events event

-- and those before it are an hour's by themselves
abbrev pub FirstPartsAreHours : Type 0
FirstPartsAreHours = (graph : Graph) (hour : ℕ) (events : List Event) (event : Event) → IsHourOf graph hour (and_then events event) → IsHourOf graph hour events

-- so are the first of them, however many follow
abbrev pub FirstOfManyAreHours : Type 0
FirstOfManyAreHours = (graph : Graph) (hour : ℕ) (events more : List Event) → IsHourOf graph hour (events ++ more) → IsHourOf graph hour events

-- over a graph whose borders each join two zones there is an hour without events
abbrev pub HoursBeginEmpty : Type 0
HoursBeginEmpty = (graph : Graph) (hour : ℕ) → IsGraph graph → IsHourOf graph hour []
