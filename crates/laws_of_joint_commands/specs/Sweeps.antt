-- The sweeps of several hours: each is that of the hour by itself.
use Rattle.std.specs.Prelude.{◌≡◌, ℕ, true, List, [], flat_map, if◌then◌else◌}
use Rattle.order_kinds.specs.declared.contract.Part.{Part}
use Rattle.zone_graph.specs.Graph.{Graph}
use Rattle.zone_graph.specs.Route.{has}
use Rattle.market_model.specs.declared.event.Event.{Event}
use Rattle.market_model.specs.declared.setup.Setup.{Setup}
use Rattle.market_model.specs.History.{of_hour}
use Rattle.market_model.specs.Rules.{ascends}
use Rattle.market_model.specs.Sweep.{sweep, sweeps}
use Rattle.market_model.specs.WellFormed.{FitAfter}

-- the sweeps of hours that ascend are the sweep of each after its own events
abbrev pub SweepsAreHourByHour : Type 0
SweepsAreHourByHour = (setup : Setup) (parts : List Part) (graph : Graph) (hours : List ℕ) (history : List Event) → FitAfter setup [] history → ascends hours ≡ true
    → sweeps parts graph hours history ≡ flat_map (λ hour. sweep parts graph hour (of_hour hour history)) hours

-- so what is of one of the hours is its own sweep, and nothing is of any other
abbrev pub SweepsOfAnHour : Type 0
SweepsOfAnHour = (setup : Setup) (parts : List Part) (graph : Graph) (hours : List ℕ) (history : List Event) (hour : ℕ) → FitAfter setup [] history → ascends hours ≡ true
    → of_hour hour (sweeps parts graph hours history) ≡ (if has hour hours then sweep parts graph hour (of_hour hour history) else [])
