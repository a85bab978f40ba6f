use Rattle.std.proofs.Common.{◌≡◌, filter, take}
use Rattle.std.specs.List.{filter_map}
use Rattle.market_model.specs.Orders.{is_open, name_given}
use Rattle.plain_orders.proofs.hour.list_names.Given as goal

abbrev pub invariant-loop-event : goal.invariant-loop-event
invariant-loop-event l = l.names.items ≡ filter (is_open l.events) (filter_map (name_given l.hour) (take l.event-index l.event-items))
