-- In which zones events change what the views of a contract and side see: those of the orders that they
-- name, and both ends of the arcs whose rooms they change.
use Rattle.std.specs.Prelude.{◌≡◌, ◌≢◌, ◌⊎◌, ℕ, Bool, true, ◌&&◌, List, [], ◌∷◌, ◌++◌, filter, map}
use Rattle.std.specs.List.{list_any}
use Rattle.order_kinds.specs.declared.contract.Contract.{Contract}
use Rattle.order_kinds.specs.declared.order.OrderName.{OrderName}
use Rattle.order_kinds.specs.declared.side.Side.{Side}
use Rattle.order_kinds.specs.Period.{contract_quarters}
use Rattle.order_kinds.specs.Same.{same_contract, same_name, same_side}
use Rattle.zone_graph.specs.declared.route.Arc.{Arc}
use Rattle.zone_graph.specs.Graph.{Graph, HasArc, HasZone}
use Rattle.zone_graph.specs.Route.{IsIn}
use Rattle.market_model.specs.declared.event.Event.{Event}
use Rattle.market_model.specs.declared.event.Event.TheVariants as event
use Rattle.market_model.specs.declared.setup.Setup.{Setup}
use Rattle.market_model.specs.Board.{IsHourOf}
use Rattle.market_model.specs.Grid.{graph_of}
use Rattle.market_model.specs.History.{and_then}
use Rattle.market_model.specs.Orders.{Placed, placed}
use Rattle.market_model.specs.Room.{room}
use Rattle.market_model.specs.WellFormed.{FitAfter, Fits}
use Rattle.laws_of_books.specs.BookLaws.{IsOfBlock}
use Rattle.laws_of_views.specs.Nearby.{DifferWithin, is_within, seen_elsewhere}

-- ---- orders

-- the names of the orders that an event enters, trades, withdraws or reduces
abbrev pub order_names : Event → List OrderName
order_names (event.Entered name caller order) = name ∷ []
order_names (event.Leg contract leg) = leg.taker ∷ leg.maker ∷ []
order_names (event.Withdrawn name lots) = name ∷ []
order_names (event.Reduced name by) = name ∷ []
order_names _ = []

-- an order has one of the names of an event
abbrev pub is_named : Event → Placed → Bool
is_named event order = list_any (λ name. same_name name order.name) (order_names event)

-- the zones of those of some orders that are of a contract and side
abbrev pub zones_in : Contract → Side → List Placed → List ℕ
zones_in contract side orders =
    map (λ order. order.order.zone) (filter (λ order. same_contract order.order.contract contract && same_side order.order.side side) orders)

-- the zones in which an event changes the orders of a contract and side: those of the orders that it names
abbrev pub order_zones : (before : List Event) → Event → Contract → Side → List ℕ
order_zones before event contract side = zones_in contract side (filter (is_named event) (placed (and_then before event)))

-- and those in which several events do, one after the other
abbrev pub zones_of_events : (before events : List Event) → Contract → Side → List ℕ
zones_of_events before [] contract side = []
zones_of_events before (event ∷ events) contract side =
    order_zones before event contract side ++ zones_of_events (and_then before event) events contract side

-- all of some zones are among others
abbrev pub AreAmong : (zones others : List ℕ) → Type 0
AreAmong zones others = (zone : ℕ) → IsIn zone zones → IsIn zone others

-- after an event that fits, the orders elsewhere than in its zones are seen as before
abbrev pub OrdersChangeInTheirZones : Type 0
OrdersChangeInTheirZones = (setup : Setup) (before : List Event) (event : Event) (contract : Contract) (side : Side) (zones : List ℕ)
    → FitAfter setup [] before → Fits setup before event → AreAmong (order_zones before event contract side) zones
    → seen_elsewhere (and_then before event) contract side zones ≡ seen_elsewhere before contract side zones

-- an event without an order's name has no zones
abbrev pub OtherEventsChangeNoOrders : Type 0
OtherEventsChangeNoOrders = (before : List Event) (event : Event) (contract : Contract) (side : Side) → order_names event ≡ []
    → order_zones before event contract side ≡ []

-- a name is that of one of some orders that entered, or of a block
abbrev pub IsOfOneOf : List Event → List Placed → OrderName → Type 0
IsOfOneOf events orders name = ((order : Placed) × IsIn order orders × IsIn order (placed events) × (order.name ≡ name)) ⊎ IsOfBlock events name

-- an event that fits has no other zones than those of its orders
abbrev pub NamedOrdersHaveTheZones : Type 0
NamedOrdersHaveTheZones = (setup : Setup) (before : List Event) (event : Event) (contract : Contract) (side : Side) (orders : List Placed)
    → FitAfter setup [] before → Fits setup before event
    → ((name : OrderName) → IsIn name (order_names event) → IsOfOneOf (and_then before event) orders name)
    → AreAmong (order_zones before event contract side) (zones_in contract side orders)

-- ---- orders and rooms

-- both ends of each arc whose room over a contract's quarters differs are among some zones
abbrev pub RoomsDifferWithin : Graph → (before after : List Event) → Contract → (zones : List ℕ) → Type 0
RoomsDifferWithin graph before after contract zones = (arc : Arc) → HasArc graph arc
    → room after (contract_quarters contract) arc ≢ room before (contract_quarters contract) arc → is_within graph zones arc ≡ true

-- before and after an event that fits the lists differ in these zones alone
abbrev pub EventsStayWithin : Type 0
EventsStayWithin = (setup : Setup) (before : List Event) (event : Event) (contract : Contract) (side : Side) (zones : List ℕ)
    → FitAfter setup [] before → Fits setup before event → AreAmong (order_zones before event contract side) zones
    → RoomsDifferWithin (graph_of setup) before (and_then before event) contract zones
    → DifferWithin (graph_of setup) before (and_then before event) contract side zones

-- lists that differ in some zones alone differ in more zones alone
abbrev pub DifferencesWiden : Type 0
DifferencesWiden = (graph : Graph) (before after : List Event) (contract : Contract) (side : Side) (zones others : List ℕ)
    → AreAmong zones others → DifferWithin graph before after contract side zones → DifferWithin graph before after contract side others

-- and differences join
abbrev pub DifferencesJoin : Type 0
DifferencesJoin = (graph : Graph) (first second third : List Event) (contract : Contract) (side : Side) (zones others : List ℕ)
    → DifferWithin graph first second contract side zones → DifferWithin graph second third contract side others
    → DifferWithin graph first third contract side (zones ++ others)

-- before and after several events that fit one after the other
abbrev pub ChangesStayWithin : Type 0
ChangesStayWithin = (setup : Setup) (before events : List Event) (contract : Contract) (side : Side) (zones : List ℕ)
    → FitAfter setup [] before → FitAfter setup before events → AreAmong (zones_of_events before events contract side) zones
    → RoomsDifferWithin (graph_of setup) before (before ++ events) contract zones
    → DifferWithin (graph_of setup) before (before ++ events) contract side zones

-- and where the events are those of an hour alone
abbrev pub ChangesOfAnHourStayWithin : Type 0
ChangesOfAnHourStayWithin = (graph : Graph) (hour : ℕ) (before events : List Event) (contract : Contract) (side : Side) (zones : List ℕ)
    → IsHourOf graph hour (before ++ events) → AreAmong (zones_of_events before events contract side) zones
    → RoomsDifferWithin graph before (before ++ events) contract zones
    → DifferWithin graph before (before ++ events) contract side zones

-- the zones of an hour's events are zones of the grid
abbrev pub ZonesOfEventsAreOfTheGrid : Type 0
ZonesOfEventsAreOfTheGrid = (graph : Graph) (hour : ℕ) (before events : List Event) (contract : Contract) (side : Side) (zone : ℕ)
    → IsHourOf graph hour (before ++ events) → IsIn zone (zones_of_events before events contract side) → HasZone graph zone
