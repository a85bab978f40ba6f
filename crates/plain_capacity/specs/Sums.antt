-- The capacity of an hour that was summed up, and more events that came since.
use Rattle.std.specs.Prelude.{◌≡◌, ℕ, ◌≤◌, List, length, take}
use Rattle.zone_graph.specs.Graph.{Graph}
use Rattle.market_model.specs.declared.event.Event.{Event}
use Rattle.plain_capacity.specs.declared.rooms.CapacitySums.{CapacitySums}
use Rattle.plain_capacity.specs.Hour.{IsCapacityOf}

-- this is the capacity of an hour after the first of some events
pub record AreCapacitySums (graph : Graph) (events : List Event) (hour : ℕ) (sums : CapacitySums) : Type 0 where
  pub most : sums.count ≤ length events
  pub of_first : IsCapacityOf graph (take sums.count events) hour sums.capacity

-- the capacity is that after all of some events
abbrev pub IsCurrent : List Event → CapacitySums → Type 0
IsCurrent events sums = sums.count ≡ length events
