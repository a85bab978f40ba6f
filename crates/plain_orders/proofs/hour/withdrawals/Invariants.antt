use Rattle.std.proofs.Common.{◌≡◌, filter, map, take}
use Rattle.std.specs.List.{filter_map}
use Rattle.market_model.specs.declared.event.Event.TheVariants as event
use Rattle.market_model.specs.Orders.{is_open, left, name_given}
use Rattle.plain_orders.proofs.hour.withdrawals.Given as goal

-- what is left is withdrawn of the open orders and blocks that the events so far enter
abbrev pub invariant-loop-event : goal.invariant-loop-event
invariant-loop-event l =
    l.made ≡ map (λ name. event.Withdrawn name (left l.events name)) (filter (is_open l.events) (filter_map (name_given l.hour) (take l.event-index l.event-items)))
