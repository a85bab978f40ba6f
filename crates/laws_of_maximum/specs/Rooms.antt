-- What legs leave of the rooms of a history, and that a taking opens no way to its taker. The laws ask of
-- the history only that each of its events fits those before it.
use Rattle.std.specs.Prelude.{◌≡◌, ℕ, true, List, [], ◌++◌, map}
use Rattle.std.specs.List.{filter_map}
use Rattle.order_kinds.specs.declared.contract.Contract.{Contract}
use Rattle.order_kinds.specs.Period.{contract_quarters}
use Rattle.zone_graph.specs.declared.route.Arc.{Arc}
use Rattle.zone_graph.specs.declared.route.RouteLeg.{RouteLeg}
use Rattle.zone_graph.specs.Pour.{room_after}
use Rattle.zone_graph.specs.Route.{IsIn, has}
use Rattle.market_model.specs.declared.event.Event.{Event}
use Rattle.market_model.specs.declared.event.Event.TheVariants as event
use Rattle.market_model.specs.declared.event.Leg.{Leg}
use Rattle.market_model.specs.declared.setup.Setup.{Setup}
use Rattle.market_model.specs.Certificate.{zones_in_reach}
use Rattle.market_model.specs.Grid.{graph_of}
use Rattle.market_model.specs.History.{and_then}
use Rattle.market_model.specs.Orders.{Placed, placed}
use Rattle.market_model.specs.Room.{room}
use Rattle.market_model.specs.Taking.{take}
use Rattle.market_model.specs.View.{trade_of}
use Rattle.market_model.specs.WellFormed.{FitAfter, IsMarketSetup, LegFits}
use Rattle.route_choice.specs.Poured.{rooms_after}

-- a leg as one that a route carries
abbrev pub route_leg : Leg → RouteLeg
route_leg leg = record { route = leg.route; lots = leg.lots }

-- the trades among some events as such legs
abbrev pub route_legs : List Event → List RouteLeg
route_legs events = map route_leg (filter_map trade_of events)

-- a leg that fits a history lowers the rooms of its arcs, over the quarters of its
-- contract, and raises those of the opposite ones
abbrev pub LegsLeaveTheRooms : Type 0
LegsLeaveTheRooms = (setup : Setup) (events : List Event) (contract : Contract) (leg : Leg) (arc : Arc) → FitAfter setup [] events → LegFits setup events contract leg
    → room (and_then events (event.Leg contract leg)) (contract_quarters contract) arc ≡ room_after (room events (contract_quarters contract)) (route_leg leg) arc

-- so a taking leaves the rooms that its legs leave, one after the other
abbrev pub TakingsLeaveTheRooms : Type 0
TakingsLeaveTheRooms = (setup : Setup) (events : List Event) (taker : Placed) (arc : Arc) → IsMarketSetup setup → FitAfter setup [] events → IsIn taker (placed events)
    → let legs = take (graph_of setup) events taker.name in
    room (events ++ legs) (contract_quarters taker.order.contract) arc ≡ rooms_after (room events (contract_quarters taker.order.contract)) (route_legs legs) arc

-- and opens no way: a zone that is in reach of its taker when it ends was so when it began
abbrev pub TakingsOpenNoWay : Type 0
TakingsOpenNoWay = (setup : Setup) (events : List Event) (taker : Placed) (zone : ℕ) → IsMarketSetup setup → FitAfter setup [] events → IsIn taker (placed events)
    → let after = events ++ take (graph_of setup) events taker.name in
    has zone (zones_in_reach (graph_of setup) (room after (contract_quarters taker.order.contract)) taker.order.side taker.order.zone) ≡ true
    → has zone (zones_in_reach (graph_of setup) (room events (contract_quarters taker.order.contract)) taker.order.side taker.order.zone) ≡ true
