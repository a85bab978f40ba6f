use Rattle.std.proofs.Common.{◌≡◌, ℕ, true, ◌||◌, length, map}
use Rattle.std.specs.List.{list_all}
use Rattle.order_kinds.specs.Period.{is_within}
use Rattle.zone_graph.specs.Route.{has}
use Rattle.market_model.specs.HourSet.{has_hour}
use Rattle.market_model.proofs.touched_hours.hours_of.Given as goal

-- an hour of an order is in the set already, or the hour of one of the rest, whose hours are there
abbrev pub invariant-loop-order : goal.invariant-loop-order
invariant-loop-order l = record {
  each : (hour : ℕ) → (has_hour l.hours hour || has hour (map (λ order. order.contract.hour) l.rest)) ≡ has hour (map (λ order. order.contract.hour) l.orders);
  known : list_all (is_within 1 32) (map (λ order. order.contract.hour) l.rest) ≡ true;
}

abbrev pub decreases-loop-order : goal.decreases-loop-order
decreases-loop-order l = length l.rest
