-- What enters: an order, a block and each order of a basket that no early rule refuses may enter, whatever
-- happened before.
use Rattle.std.specs.Prelude.{◌≡◌, ℕ, List, None}
use Rattle.order_kinds.specs.declared.order.BlockOrder.{BlockOrder}
use Rattle.order_kinds.specs.declared.order.Order.{Order}
use Rattle.zone_graph.specs.Route.{IsIn}
use Rattle.market_model.specs.declared.command.Command.TheVariants as command
use Rattle.market_model.specs.declared.event.Event.{Event}
use Rattle.market_model.specs.declared.setup.Setup.{Setup}
use Rattle.market_model.specs.Entering.{name_of_next}
use Rattle.market_model.specs.Orders.{next_name}
use Rattle.market_model.specs.Rules.{early_refusal}
use Rattle.market_model.specs.WellFormed.{BlockEnters, OrderEnters}

-- an order that no early rule refuses enters under the next name of its hour
abbrev pub EntriesFit : Type 0
EntriesFit = (setup : Setup) (before : List Event) (caller : ℕ) (order : Order) → early_refusal setup caller (command.Enter order) ≡ None
    → OrderEnters setup before (name_of_next before order) caller order

-- a block under the next name of its first hour
abbrev pub BlockEntriesFit : Type 0
BlockEntriesFit = (setup : Setup) (before : List Event) (caller : ℕ) (order : BlockOrder) → early_refusal setup caller (command.EnterBlock order) ≡ None
    → BlockEnters setup before (next_name before order.first) caller order

-- and each order of a basket under the next name of its own hour
abbrev pub BasketEntriesFit : Type 0
BasketEntriesFit = (setup : Setup) (before : List Event) (caller : ℕ) (orders : List Order) (order : Order)
    → early_refusal setup caller (command.EnterBasket orders) ≡ None → IsIn order orders → OrderEnters setup before (name_of_next before order) caller order
