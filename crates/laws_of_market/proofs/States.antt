-- What is entered, filled, taken off and left of an order or block after one more event.
use Rattle.std.proofs.Common.{◌≡◌, ◌+◌, ◌-◌, List, arith}
use Rattle.std.proofs.lemmas.List.Sums.{sum_by_push}
use Rattle.order_kinds.specs.declared.order.OrderName.{OrderName}
use Rattle.market_model.specs.declared.event.Event.{Event}
use Rattle.market_model.specs.History.{and_then}
use Rattle.market_model.specs.Orders.{entered, entered_by, filled, filled_by, left, taken_off, taken_off_by}

pub entered-more : (events : List Event) (event : Event) (name : OrderName)
    → entered (and_then events event) name ≡ entered events name + entered_by name event
entered-more events event name = sum_by_push (entered_by name) events event

pub filled-more : (events : List Event) (event : Event) (name : OrderName)
    → filled (and_then events event) name ≡ filled events name + filled_by name event
filled-more events event name = sum_by_push (filled_by name) events event

pub taken_off-more : (events : List Event) (event : Event) (name : OrderName)
    → taken_off (and_then events event) name ≡ taken_off events name + taken_off_by name event
taken_off-more events event name = sum_by_push (taken_off_by name) events event

-- an event that enters nothing of a name takes what it fills and takes off from what is left
pub left-more : (events : List Event) (event : Event) (name : OrderName) → entered_by name event ≡ 0
    → left (and_then events event) name ≡ left events name - (filled_by name event + taken_off_by name event)
left-more events event name none =
    rw (entered-more events event name, filled-more events event name, taken_off-more events event name, none) (omega arith)
