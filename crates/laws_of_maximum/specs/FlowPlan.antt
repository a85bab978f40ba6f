-- Flow plans: what could flow to a taker from the opposite orders, over whatever routes and in whatever
-- parts. They are flows in a network as textbooks on maximum flow have them, with the orders as
-- sources and the taker's zone as the sink, and for a sell the other way round.
use Rattle.std.specs.Prelude.{◌≡◌, ◌≢◌, ℕ, ◌+◌, ◌≤◌, ◌==◌, true, List, [], filter, sum_by}
use Rattle.order_kinds.specs.declared.order.Order.{Order}
use Rattle.order_kinds.specs.declared.side.Side.{Side}
use Rattle.order_kinds.specs.declared.side.Side.TheVariants.{Buy, Sell}
use Rattle.order_kinds.specs.Period.{contract_quarters}
use Rattle.order_kinds.specs.Side.{opposite}
use Rattle.zone_graph.specs.declared.route.Arc.{Arc}
use Rattle.zone_graph.specs.Graph.{Graph, HasArc, HasZone, IsGraph}
use Rattle.zone_graph.specs.Pour.{opposite_arc}
use Rattle.zone_graph.specs.Route.{IsIn, has}
use Rattle.market_model.specs.declared.event.Event.{Event}
use Rattle.market_model.specs.declared.setup.Setup.{Setup}
use Rattle.market_model.specs.Certificate.{bound_of, crossing_lots, room_across}
use Rattle.market_model.specs.Entering.{with_order}
use Rattle.market_model.specs.Grid.{graph_of}
use Rattle.market_model.specs.Lines.{line}
use Rattle.market_model.specs.Orders.{Standing}
use Rattle.market_model.specs.Room.{room}
use Rattle.market_model.specs.WellFormed.{FitAfter, IsMarketSetup}
use Rattle.route_choice.specs.Flow.{sent_out, taken_in}

-- what each order gives, and what flows over each arc
pub record FlowPlan : Type 0 where
  pub gives : Standing → ℕ
  pub flow : Arc → ℕ

-- what the orders of a zone give
abbrev pub given_in : List Standing → FlowPlan → (zone : ℕ) → ℕ
given_in orders plan zone = sum_by plan.gives (filter (λ order. order.order.zone == zone) orders)

-- the value of a plan: what all orders give
abbrev pub value_of : List Standing → FlowPlan → ℕ
value_of orders plan = sum_by plan.gives orders

-- a zone passes on, to a buy, exactly what comes in and what its orders give; to a sell, it takes in
-- exactly what goes out and what its orders give, which are buys
abbrev pub IsBalanced : Graph → Side → List Standing → FlowPlan → (zone : ℕ) → Type 0
IsBalanced graph Buy orders plan zone = sent_out graph plan.flow zone ≡ taken_in graph plan.flow zone + given_in orders plan zone
IsBalanced graph Sell orders plan zone = taken_in graph plan.flow zone ≡ sent_out graph plan.flow zone + given_in orders plan zone

-- a plan for a taker of a side in a zone: each order gives from nothing to the most that it has; over
-- each border a net flow goes within the rooms of its two arcs, that is over each arc, beyond what
-- flows back over the opposite one, no more than there is room for; and each zone but the taker's is
-- balanced
pub record IsFlowPlan (graph : Graph) (room : Arc → ℕ) (side : Side) (zone : ℕ) (orders : List Standing) (most : Standing → ℕ) (plan : FlowPlan) : Type 0 where
  pub gives_most : (order : Standing) → IsIn order orders → plan.gives order ≤ most order
  pub within : (arc : Arc) → HasArc graph arc → plan.flow arc ≤ room arc + plan.flow (opposite_arc arc)
  pub balanced : (other : ℕ) → HasZone graph other → other ≢ zone → IsBalanced graph side orders plan other

-- the bound of a set of zones: the most that the orders inside have, and the room of the arcs over
-- which energy comes in from outside, or for a sell goes out
abbrev pub bound_with : Graph → (Arc → ℕ) → Side → List Standing → (most : Standing → ℕ) → (zones : List ℕ) → ℕ
bound_with graph room side orders most zones =
    sum_by most (filter (λ order. has order.order.zone zones) orders) + room_across graph room side zones

-- no plan is worth more than the bound of any set of zones that has the taker's
abbrev pub NoPlanBeatsABound : Type 0
NoPlanBeatsABound = (graph : Graph) (room : Arc → ℕ) (side : Side) (zone : ℕ) (orders : List Standing) (most : Standing → ℕ) (plan : FlowPlan) (zones : List ℕ)
    → IsGraph graph → ((order : Standing) → IsIn order orders → HasZone graph order.order.zone)
    → IsFlowPlan graph room side zone orders most plan → has zone zones ≡ true → value_of orders plan ≤ bound_with graph room side orders most zones

-- the orders that an order meets as it enters: those of the opposite line
abbrev pub orders_met : List Event → (caller : ℕ) → Order → List Standing
orders_met events caller order = line (with_order events caller order) order.contract (opposite order.side)

-- a plan for an order that enters, as its taking starts: each opposite order gives no more than what
-- of it crosses
abbrev pub IsPlanFor : Graph → List Event → (caller : ℕ) → Order → FlowPlan → Type 0
IsPlanFor graph events caller order plan =
    IsFlowPlan graph (room (with_order events caller order) (contract_quarters order.contract)) order.side order.zone
    (orders_met events caller order) (crossing_lots order) plan

-- so after events of which each fits those before it no plan for an order is worth more than the bound
-- of any set of zones that has its zone
abbrev pub NoPlanBeatsTheBound : Type 0
NoPlanBeatsTheBound = (setup : Setup) (events : List Event) (caller : ℕ) (order : Order) (plan : FlowPlan) (zones : List ℕ)
    → IsMarketSetup setup → FitAfter setup [] events → IsPlanFor (graph_of setup) events caller order plan → has order.zone zones ≡ true
    → value_of (orders_met events caller order) plan ≤ bound_of (graph_of setup) events caller order zones
