-- What a view depends on: the orders and the arcs in reach of its zone. What changes elsewhere leaves
-- it as it was.
use Rattle.std.specs.Prelude.{◌≡◌, ℕ, Bool, true, false, ◌&&◌, not, List, [], filter, map}
use Rattle.order_kinds.specs.declared.contract.Contract.{Contract}
use Rattle.order_kinds.specs.declared.side.Side.{Side}
use Rattle.order_kinds.specs.Period.{contract_quarters}
use Rattle.order_kinds.specs.Side.{opposite}
use Rattle.zone_graph.specs.declared.route.Arc.{Arc}
use Rattle.zone_graph.specs.Graph.{Graph, HasArc, IsGraph, end_of, start_of}
use Rattle.zone_graph.specs.Reach.{reaches}
use Rattle.zone_graph.specs.Route.{IsIn, best_route, has}
use Rattle.market_model.specs.declared.event.Event.{Event}
use Rattle.market_model.specs.declared.setup.Setup.{Setup}
use Rattle.market_model.specs.Certificate.{zones_in_reach}
use Rattle.market_model.specs.Grid.{graph_of}
use Rattle.market_model.specs.Lines.{line}
use Rattle.market_model.specs.Orders.{Standing}
use Rattle.market_model.specs.Room.{room}
use Rattle.market_model.specs.View.{view}
use Rattle.market_model.specs.WellFormed.{FitAfter, IsMarketSetup}
use Rattle.laws_of_rows.specs.declared.trades.Maker.{Maker}
use Rattle.laws_of_rows.specs.Depth.{maker_of}

-- the best route to a zone depends only on the rooms of the arcs that lead to zones which reach it
abbrev pub RoutesDependOnWhatReaches : Type 0
RoutesDependOnWhatReaches = (graph : Graph) (room other : Arc → ℕ) (from to : ℕ) → IsGraph graph
    → ((arc : Arc) → HasArc graph arc → reaches graph room (end_of graph arc) to ≡ true → room arc ≡ other arc)
    → best_route graph room from to ≡ best_route graph other from to

-- the best route from a zone depends only on the rooms of the arcs that lead from zones which it reaches
abbrev pub RoutesDependOnWhatIsReached : Type 0
RoutesDependOnWhatIsReached = (graph : Graph) (room other : Arc → ℕ) (from to : ℕ) → IsGraph graph
    → ((arc : Arc) → HasArc graph arc → reaches graph room from (start_of graph arc) ≡ true → room arc ≡ other arc)
    → best_route graph room from to ≡ best_route graph other from to

-- an order stands elsewhere than in some zones
abbrev pub is_elsewhere : (zones : List ℕ) → Standing → Bool
is_elsewhere zones order = not (has order.order.zone zones)

-- what a view sees of the orders of a line that stand elsewhere, one after the other: their names,
-- zones and prices, and the lots that they show
abbrev pub seen_elsewhere : List Event → Contract → Side → (zones : List ℕ) → List Maker
seen_elsewhere events contract side zones = map maker_of (filter (is_elsewhere zones) (line events contract side))

-- both ends of an arc are among some zones
abbrev pub is_within : Graph → (zones : List ℕ) → Arc → Bool
is_within graph zones arc = has (start_of graph arc) zones && has (end_of graph arc) zones

-- two lists of events differ in some zones alone, as far as the views of a contract and side go: the
-- orders elsewhere are seen alike, and so are the rooms of all arcs but those within these zones
pub record DifferWithin (graph : Graph) (before after : List Event) (contract : Contract) (side : Side) (zones : List ℕ) : Type 0 where
  pub orders : seen_elsewhere after contract side zones ≡ seen_elsewhere before contract side zones
  pub rooms : (arc : Arc) → HasArc graph arc → is_within graph zones arc ≡ false
      → room after (contract_quarters contract) arc ≡ room before (contract_quarters contract) arc

-- the zones that the taker of a view can trade with: for a view of sells those that reach its zone, for
-- one of buys those that it reaches
abbrev pub zones_of_view : Graph → List Event → Contract → Side → (zone : ℕ) → List ℕ
zones_of_view graph events contract side zone = zones_in_reach graph (room events (contract_quarters contract)) (opposite side) zone

-- no zone is in both of two lists
abbrev pub HaveNoZoneInCommon : List ℕ → List ℕ → Type 0
HaveNoZoneInCommon zones others = (zone : ℕ) → IsIn zone zones → ¬ IsIn zone others

-- where two lists of events differ in some zones alone, none of which was in reach, the zones in reach
-- are the same
abbrev pub ReachChangesNearby : Type 0
ReachChangesNearby = (setup : Setup) (before after : List Event) (contract : Contract) (side : Side) (zone : ℕ) (touched : List ℕ) → IsMarketSetup setup
    → DifferWithin (graph_of setup) before after contract side touched
    → HaveNoZoneInCommon touched (zones_of_view (graph_of setup) before contract side zone)
    → zones_of_view (graph_of setup) after contract side zone ≡ zones_of_view (graph_of setup) before contract side zone

-- and the views are the same
abbrev pub ViewsChangeNearby : Type 0
ViewsChangeNearby = (setup : Setup) (before after : List Event) (contract : Contract) (side : Side) (zone : ℕ) (touched : List ℕ) → IsMarketSetup setup
    → FitAfter setup [] before → FitAfter setup [] after
    → DifferWithin (graph_of setup) before after contract side touched
    → HaveNoZoneInCommon touched (zones_of_view (graph_of setup) before contract side zone)
    → view (graph_of setup) after contract side zone ≡ view (graph_of setup) before contract side zone
