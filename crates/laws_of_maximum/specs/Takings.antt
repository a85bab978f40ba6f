-- What an order obtains of the resting orders as it enters: its whole quantity, or as much as the
-- bound of the zones that are still in reach then.
use Rattle.std.specs.Prelude.{◌≡◌, ℕ, ◌≤◌, ◌⊎◌, List, [], sum_by}
use Rattle.std.specs.List.{filter_map}
use Rattle.order_kinds.specs.declared.order.Kind.{Kind}
use Rattle.order_kinds.specs.declared.order.Kind.TheVariants as kind
use Rattle.order_kinds.specs.declared.order.Order.{Order}
use Rattle.zone_graph.specs.Graph.{Graph}
use Rattle.market_model.specs.declared.event.Event.{Event}
use Rattle.market_model.specs.declared.setup.Setup.{Setup}
use Rattle.market_model.specs.Certificate.{bound_of, unfilled_zones}
use Rattle.market_model.specs.Entering.{legs_taken, name_of_next}
use Rattle.market_model.specs.Grid.{graph_of}
use Rattle.market_model.specs.View.{trade_of}
use Rattle.market_model.specs.WellFormed.{FitAfter, IsMarketSetup, OrderEnters}
use Rattle.laws_of_maximum.specs.FlowPlan.{FlowPlan, IsPlanFor, orders_met, value_of}

-- the lots of the trades among some events
abbrev pub lots_traded : List Event → ℕ
lots_traded events = sum_by (λ leg. leg.lots) (filter_map trade_of events)

-- what an order obtains as it enters: the lots of the legs that it takes
abbrev pub obtained : Graph → List Event → (caller : ℕ) → Order → ℕ
obtained graph events caller order = lots_traded (legs_taken graph events caller order)

-- the peaks of an iceberg are all at one price
abbrev pub HasNoDelta : Kind → Type 0
HasNoDelta (kind.Iceberg peak delta) = delta ≡ 0
HasNoDelta _ = Unit {0}

-- an order that can enter after events of which each fits those before it, an iceberg at one price
-- alone, obtains its whole quantity, or exactly the bound of the zones that are still in reach when its taking ends
abbrev pub TakingsReachTheirBound : Type 0
TakingsReachTheirBound = (setup : Setup) (events : List Event) (caller : ℕ) (order : Order) → IsMarketSetup setup → FitAfter setup [] events
    → OrderEnters setup events (name_of_next events order) caller order → HasNoDelta order.kind
    → (obtained (graph_of setup) events caller order ≡ order.quantity.0)
    ⊎ (obtained (graph_of setup) events caller order ≡ bound_of (graph_of setup) events caller order (unfilled_zones (graph_of setup) events caller order))

-- so no flow plan for it is worth more, unless it is filled
abbrev pub TakingsObtainTheMost : Type 0
TakingsObtainTheMost = (setup : Setup) (events : List Event) (caller : ℕ) (order : Order) (plan : FlowPlan) → IsMarketSetup setup → FitAfter setup [] events
    → OrderEnters setup events (name_of_next events order) caller order → HasNoDelta order.kind
    → IsPlanFor (graph_of setup) events caller order plan
    → (obtained (graph_of setup) events caller order ≡ order.quantity.0)
    ⊎ (value_of (orders_met events caller order) plan ≤ obtained (graph_of setup) events caller order)
