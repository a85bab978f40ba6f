-- An order with its side or its kind written out: a proof by cases of either begins with the order's own.
use Rattle.order_kinds.specs.declared.side.Side.{Side}
use Rattle.order_kinds.specs.declared.order.Kind.{Kind}
use Rattle.order_kinds.specs.declared.order.Order.{Order}
use Rattle.market_model.specs.Orders.{Standing}

-- an order, on a side
unfoldable pub on : Side → Standing → Standing
on side own = record own { order = record (own.order) { side = side } }

-- an order, of a kind
unfoldable pub of_kind : Kind → Order → Order
of_kind kind order = record order { kind = kind }
