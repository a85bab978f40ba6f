-- The sums of the orders and blocks of each hour, kept from one command to the next.
use Rattle.std.specs.Prelude.{ℕ, List, Option, None, IfSome, replicate, slice_index_or}
use Rattle.market_model.specs.declared.event.Event.{Event}
use Rattle.event_history.specs.ByHour.{hour_count}
use Rattle.plain_orders.specs.declared.tally.OrderSums.{OrderSums}
use Rattle.plain_orders.specs.Tallies.{AreSums}

-- the sums that are kept of an hour, if there are
abbrev pub sums_at : List (Option OrderSums) → (hour : ℕ) → Option OrderSums
sums_at day hour = slice_index_or day hour None

-- none are kept
abbrev pub nothing_summed : List (Option OrderSums)
nothing_summed = replicate hour_count None

-- the sums that are kept of an hour are its sums over the first of some events
pub record AreDaySums (events : List Event) (day : List (Option OrderSums)) : Type 0 where
  pub each : (hour : ℕ) → IfSome (sums_at day hour) (AreSums events hour)
