-- Hours in which nothing trades.
use Rattle.std.specs.Prelude.{◌≡◌, ℕ, List, None}
use Rattle.order_kinds.specs.declared.contract.Part.{Part}
use Rattle.zone_graph.specs.Graph.{Graph}
use Rattle.market_model.specs.declared.event.Event.{Event}
use Rattle.market_model.specs.Sweep.{leg_in}

-- no part of an hour has a leg in a sweep
abbrev pub HasNoLeg : Graph → (hour : ℕ) → List Event → Type 0
HasNoLeg graph hour events = (part : Part) → leg_in graph events (record { hour = hour; part = part }) ≡ None
