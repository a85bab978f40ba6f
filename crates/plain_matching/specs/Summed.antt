-- What was summed up of an hour.
use Rattle.std.specs.Prelude.{◌≡◌, ℕ, ◌≤◌, ◌⊎◌, List, Option, IfSome, IsSome, length, take}
use Rattle.zone_graph.specs.Graph.{Graph}
use Rattle.market_model.specs.declared.event.Event.{Event}
use Rattle.plain_capacity.specs.declared.rooms.CapacitySums.{CapacitySums}
use Rattle.plain_capacity.specs.Sums.{AreCapacitySums}
use Rattle.plain_orders.specs.Listed.{open_orders}
use Rattle.plain_orders.specs.Tallies.{AreCurrent, AreSums}
use Rattle.plain_matching.specs.declared.hour_sums.HourSums.{HourSums}
use Rattle.plain_matching.specs.declared.hour_sums.OpenOrders.{OpenOrders}

-- some orders were the open ones of an hour after the first of some events, so many
pub record WereOpen (events : List Event) (hour : ℕ) (found : OpenOrders) : Type 0 where
  pub most : found.count ≤ length events
  pub of_first : found.orders.items ≡ open_orders (take found.count events) hour

-- what was listed are the open orders of an hour after the first of some events
abbrev pub AreListed : List Event → (hour : ℕ) → Option OpenOrders → Type 0
AreListed events hour found = IfSome found (WereOpen events hour)

-- what was summed up are the sums of an hour, its capacity and its open orders, over the first of some events
pub record AreHourSums (graph : Graph) (events : List Event) (hour : ℕ) (sums : HourSums) : Type 0 where
  pub orders_are : IfSome sums.orders (AreSums events hour)
  pub capacity_is : IfSome sums.capacity (AreCapacitySums graph events hour)
  pub listed_are : AreListed events hour sums.listed

-- the sums of the orders are there, and are those over all of some events
pub record HasOrders (events : List Event) (sums : HourSums) : Type 0 where
  pub there : IsSome sums.orders
  pub current : IfSome sums.orders (AreCurrent events)

-- the capacity is there, and is that after so many events or more
pub record IsAfter (count : ℕ) (capacity : Option CapacitySums) : Type 0 where
  pub there : IsSome capacity
  pub many : IfSome capacity (λ sums. count ≤ sums.count)

-- the capacity is the one that was there, where there was no need of it, or one after so many events or more
abbrev pub StaysOrIsAfter : (needless : Type 0) (count : ℕ) (old new : Option CapacitySums) → Type 0
StaysOrIsAfter needless count old new = ((new ≡ old) × needless) ⊎ IsAfter count new
