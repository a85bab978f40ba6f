-- A basket: each of its orders enters in an hour of its own.
use Rattle.std.specs.Prelude.{◌≡◌, ℕ, true, false, List, [], flat_map, map, None}
use Rattle.order_kinds.specs.declared.contract.Part.{Part}
use Rattle.order_kinds.specs.declared.order.Order.{Order}
use Rattle.zone_graph.specs.Graph.{Graph}
use Rattle.zone_graph.specs.Route.{IsIn, has}
use Rattle.market_model.specs.declared.command.Command.TheVariants as command
use Rattle.market_model.specs.declared.event.Event.{Event}
use Rattle.market_model.specs.declared.reply.Reply.TheVariants as reply
use Rattle.market_model.specs.declared.setup.Setup.{Setup}
use Rattle.market_model.specs.Entering.{enter, enter_all}
use Rattle.market_model.specs.Grid.{graph_of}
use Rattle.market_model.specs.History.{of_hour}
use Rattle.market_model.specs.Market.{reply_by}
use Rattle.market_model.specs.Refusals.{basket_order_refusal, basket_refusal, refusal_of_command}
use Rattle.market_model.specs.Rules.{ascends}
use Rattle.market_model.specs.Sweep.{first_answer}
use Rattle.market_model.specs.WellFormed.{FitAfter}

-- the hours of some orders
abbrev pub hours_of : List Order → List ℕ
hours_of orders = map (λ order. order.contract.hour) orders

-- what an order does as it enters, after the events of its own hour
abbrev pub entered_alone : List Part → Graph → List Event → (caller : ℕ) → Order → List Event
entered_alone parts graph history caller order = enter parts graph caller order (of_hour order.contract.hour history)

-- orders whose hours ascend, entered one after the other, are each entered after the events of its own hour
abbrev pub OrdersEnterHourByHour : Type 0
OrdersEnterHourByHour = (setup : Setup) (parts : List Part) (graph : Graph) (history : List Event) (caller : ℕ) (orders : List Order)
    → FitAfter setup [] history → ascends (hours_of orders) ≡ true
    → enter_all parts graph caller orders history ≡ flat_map (entered_alone parts graph history caller) orders

-- so what is of the hour of one of them is what this one does
abbrev pub OrdersHaveTheirHours : Type 0
OrdersHaveTheirHours = (setup : Setup) (parts : List Part) (graph : Graph) (history : List Event) (caller : ℕ) (orders : List Order) (order : Order)
    → FitAfter setup [] history → ascends (hours_of orders) ≡ true → IsIn order orders
    → of_hour order.contract.hour (enter_all parts graph caller orders history) ≡ entered_alone parts graph history caller order

-- and nothing is of any other hour
abbrev pub OrdersLeaveOtherHours : Type 0
OrdersLeaveOtherHours = (setup : Setup) (parts : List Part) (graph : Graph) (history : List Event) (caller : ℕ) (orders : List Order) (hour : ℕ)
    → FitAfter setup [] history → has hour (hours_of orders) ≡ false → of_hour hour (enter_all parts graph caller orders history) ≡ []

-- the reply to a basket that no rule refuses is these events, and the hours of its orders ascend
abbrev pub BasketsAreDoneHourByHour : Type 0
BasketsAreDoneHourByHour = (setup : Setup) (parts : List Part) (history : List Event) (caller : ℕ) (orders : List Order)
    → FitAfter setup [] history → refusal_of_command setup history caller (command.EnterBasket orders) ≡ None
    → (ascends (hours_of orders) ≡ true)
    × (reply_by parts setup history caller (command.EnterBasket orders) ≡ reply.Done (enter_all parts (graph_of setup) caller orders history))
    × (reply_by parts setup history caller (command.EnterBasket orders) ≡ reply.Done (flat_map (entered_alone parts (graph_of setup) history caller) orders))

-- a basket is refused by the first of its orders that is not filled after the events of its own hour
abbrev pub BasketsAreRefusedHourByHour : Type 0
BasketsAreRefusedHourByHour = (setup : Setup) (graph : Graph) (history : List Event) (caller : ℕ) (orders : List Order) → FitAfter setup [] history
    → basket_refusal graph history caller (command.EnterBasket orders)
    ≡ first_answer (λ order. basket_order_refusal graph (of_hour order.contract.hour history) caller order) orders
