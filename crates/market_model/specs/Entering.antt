-- What happens as an order enters. The kinds of execution are in the public description; the names
-- of orders are this market's own.
use Rattle.std.specs.Prelude.{ℕ, suc, List, [], ◌∷◌, ◌++◌}
use Rattle.order_kinds.specs.declared.order.Kind.{Kind}
use Rattle.order_kinds.specs.declared.order.Kind.TheVariants as kind
use Rattle.order_kinds.specs.declared.order.Order.{Order}
use Rattle.order_kinds.specs.declared.order.OrderName.{OrderName}
use Rattle.order_kinds.specs.declared.contract.Part.{Part}
use Rattle.zone_graph.specs.Graph.{Graph}
use Rattle.market_model.specs.declared.event.Event.{Event}
use Rattle.market_model.specs.declared.event.Event.TheVariants as event
use Rattle.market_model.specs.History.{and_then}
use Rattle.market_model.specs.Orders.{left, next_name}
use Rattle.market_model.specs.Sweep.{sweep}
use Rattle.market_model.specs.Taking.{take}

-- the name that an order gets as it enters
abbrev pub name_of_next : List Event → Order → OrderName
name_of_next events order = next_name events order.contract.hour

-- the history with the order entered
abbrev pub with_order : List Event → (caller : ℕ) → Order → List Event
with_order events caller order = and_then events (event.Entered (name_of_next events order) caller order)

-- the legs that it takes as it enters
abbrev pub legs_taken : Graph → List Event → (caller : ℕ) → Order → List Event
legs_taken graph events caller order = take graph (with_order events caller order) (name_of_next events order)

-- the history after those legs
abbrev pub after_taking : Graph → List Event → (caller : ℕ) → Order → List Event
after_taking graph events caller order = with_order events caller order ++ legs_taken graph events caller order

-- what its taking leaves of it
abbrev pub rest_of : Graph → List Event → (caller : ℕ) → Order → ℕ
rest_of graph events caller order = left (after_taking graph events caller order) (name_of_next events order)

-- an immediate-or-cancel order's rest is withdrawn; any other rest stays
abbrev pub rest_withdrawn : Kind → OrderName → (rest : ℕ) → List Event
rest_withdrawn kind.Ioc name (suc more) = event.Withdrawn name (suc more) ∷ []
rest_withdrawn _ name rest = []

-- the events of an order that enters and is not refused: its entry, the legs that it takes, the
-- withdrawal of an immediate-or-cancel order's rest, the sweep of its hour
unfoldable pub enter : List Part → Graph → (caller : ℕ) → Order → List Event → List Event
enter parts graph caller order events =
    let name = name_of_next events order in
    let entry = event.Entered name caller order ∷ [] in
    let legs = take graph (events ++ entry) name in
    let rest = left (events ++ entry ++ legs) name in
    let done = entry ++ legs ++ rest_withdrawn order.kind name rest in
    done ++ sweep parts graph order.contract.hour (events ++ done)

-- the events of orders that enter one after the other
abbrev pub enter_all : List Part → Graph → (caller : ℕ) → List Order → List Event → List Event
enter_all parts graph caller [] events = []
enter_all parts graph caller (order ∷ orders) events =
    let done = enter parts graph caller order events in done ++ enter_all parts graph caller orders (events ++ done)
