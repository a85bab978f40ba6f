-- What a view takes: of all the orders of its line, and of the first of them, whatever routes are
-- chosen.
use Rattle.std.specs.Prelude.{◌≡◌, ℕ, ◌*◌, ◌≤◌, ◌⊎◌, List, length, sum_by, take}
use Rattle.std.specs.List.{filter_map, list_any}
use Rattle.order_kinds.specs.declared.contract.Contract.{Contract}
use Rattle.order_kinds.specs.declared.side.Side.{Side}
use Rattle.order_kinds.specs.Period.{contract_quarters}
use Rattle.order_kinds.specs.Same.{same_name}
use Rattle.order_kinds.specs.Side.{opposite}
use Rattle.zone_graph.specs.Graph.{Graph, HasZone}
use Rattle.zone_graph.specs.Pour.{lots_if}
use Rattle.market_model.specs.declared.event.Event.{Event}
use Rattle.market_model.specs.declared.event.Leg.{Leg}
use Rattle.market_model.specs.declared.setup.Setup.{Setup}
use Rattle.market_model.specs.Certificate.{bound_of, unfilled_zones}
use Rattle.market_model.specs.Entering.{legs_taken}
use Rattle.market_model.specs.Grid.{graph_of}
use Rattle.market_model.specs.History.{journal_events}
use Rattle.market_model.specs.Lines.{line}
use Rattle.market_model.specs.Market.{Turn, run_of}
use Rattle.market_model.specs.Orders.{Standing, open_names}
use Rattle.market_model.specs.Room.{room}
use Rattle.market_model.specs.View.{trade_of, unlimited_taker, view, without_hidden}
use Rattle.market_model.specs.WellFormed.{IsHistory, IsMarketSetup}
use Rattle.laws_of_maximum.specs.FlowPlan.{FlowPlan, IsFlowPlan, bound_with, value_of}

-- the legs of the taking that a view shows
abbrev pub legs_viewed : Graph → List Event → Contract → Side → (zone : ℕ) → List Leg
legs_viewed graph events contract side zone =
    filter_map trade_of (legs_taken graph (without_hidden events contract side) 0 (unlimited_taker contract side zone))

-- the lots of those legs whose maker is one of some orders
abbrev pub lots_taken_of : List Standing → List Leg → ℕ
lots_taken_of orders legs = sum_by (λ leg. lots_if (list_any (λ order. same_name order.name leg.maker) orders) leg.lots) legs

-- the lots of the rows of a view
abbrev pub lots_of_rows : Graph → List Event → Contract → Side → (zone : ℕ) → ℕ
lots_of_rows graph events contract side zone = sum_by (λ row. row.lots) (view graph events contract side zone)

-- the zones that are still in reach where the taking of a view ends
abbrev pub zones_viewed : Graph → List Event → Contract → Side → (zone : ℕ) → List ℕ
zones_viewed graph events contract side zone = unfilled_zones graph (without_hidden events contract side) 0 (unlimited_taker contract side zone)

-- the bound of some zones for a taker in a zone: of what some orders show inside them
abbrev pub bound_shown : Graph → List Event → Contract → Side → List Standing → (zones : List ℕ) → ℕ
bound_shown graph events contract side orders zones =
    bound_with graph (room events (contract_quarters contract)) (opposite side) orders (λ order. order.shown) zones

-- a flow plan for a taker in a zone from some orders alone, each of which gives no more than it shows
abbrev pub IsPlanOver : Graph → List Event → Contract → Side → (zone : ℕ) → List Standing → FlowPlan → Type 0
IsPlanOver graph events contract side zone orders plan =
    IsFlowPlan graph (room events (contract_quarters contract)) (opposite side) zone orders (λ order. order.shown) plan

-- after a well-formed history a view takes at most 999.0 MW for each order or block that is open by its
-- hour: so with at most 4096 open, far less than all that it asks for
abbrev pub ViewsTakeNoMoreThanIsOpen : Type 0
ViewsTakeNoMoreThanIsOpen = (setup : Setup) (events : List Event) (contract : Contract) (side : Side) (zone : ℕ) → IsMarketSetup setup → IsHistory setup events
    → HasZone (graph_of setup) zone → lots_of_rows (graph_of setup) events contract side zone ≤ 9990 * length (open_names events contract.hour)

-- after a well-formed history the lots of a view's rows add up to the bound of the zones that are
-- still in reach when its taking ends, unless they are all that it asks for
abbrev pub ViewsAddUpToTheirBound : Type 0
ViewsAddUpToTheirBound = (setup : Setup) (events : List Event) (contract : Contract) (side : Side) (zone : ℕ) → IsMarketSetup setup → IsHistory setup events
    → HasZone (graph_of setup) zone
    → (lots_of_rows (graph_of setup) events contract side zone ≡ 4294967295)
    ⊎ (lots_of_rows (graph_of setup) events contract side zone
    ≡ bound_shown (graph_of setup) events contract side (line events contract side) (zones_viewed (graph_of setup) events contract side zone))

-- and the bound of some zones is that of the view's taker, after what is hidden was withdrawn
abbrev pub ViewsHaveTheirTakersBound : Type 0
ViewsHaveTheirTakersBound = (setup : Setup) (events : List Event) (contract : Contract) (side : Side) (zone : ℕ) (zones : List ℕ) → IsMarketSetup setup
    → IsHistory setup events → HasZone (graph_of setup) zone
    → bound_of (graph_of setup) (without_hidden events contract side) 0 (unlimited_taker contract side zone) zones
    ≡ bound_shown (graph_of setup) events contract side (line events contract side) zones

-- and for every number, no flow plan from so many first orders of the line alone is worth more than
-- what the view takes of these
abbrev pub EachPlaceGetsTheMost : Type 0
EachPlaceGetsTheMost = (setup : Setup) (events : List Event) (contract : Contract) (side : Side) (zone count : ℕ) (plan : FlowPlan) → IsMarketSetup setup
    → IsHistory setup events → HasZone (graph_of setup) zone
    → let first = take count (line events contract side) in
    IsPlanOver (graph_of setup) events contract side zone first plan
    → (lots_of_rows (graph_of setup) events contract side zone ≡ 4294967295)
    ⊎ (value_of first plan ≤ lots_taken_of first (legs_viewed (graph_of setup) events contract side zone))

-- and what it takes of them is the value of such a plan
pub record TakesAPlan (graph : Graph) (events : List Event) (contract : Contract) (side : Side) (zone : ℕ) (orders : List Standing) : Type 0 where
  pub plan : FlowPlan
  pub planned : IsPlanOver graph events contract side zone orders plan
  pub worth : value_of orders plan ≡ lots_taken_of orders (legs_viewed graph events contract side zone)

abbrev pub EachPlaceTakesAPlan : Type 0
EachPlaceTakesAPlan = (setup : Setup) (events : List Event) (contract : Contract) (side : Side) (zone count : ℕ) → IsMarketSetup setup → IsHistory setup events
    → HasZone (graph_of setup) zone → TakesAPlan (graph_of setup) events contract side zone (take count (line events contract side))

-- so after every journal: there a view takes less than it asks for
abbrev pub ViewsInJournalsAddUp : Type 0
ViewsInJournalsAddUp = (setup : Setup) (turns : List Turn) (contract : Contract) (side : Side) (zone : ℕ) → IsMarketSetup setup → HasZone (graph_of setup) zone
    → let events = journal_events (run_of setup turns) in
    lots_of_rows (graph_of setup) events contract side zone
    ≡ bound_shown (graph_of setup) events contract side (line events contract side) (zones_viewed (graph_of setup) events contract side zone)

abbrev pub EachPlaceInJournalsGetsTheMost : Type 0
EachPlaceInJournalsGetsTheMost = (setup : Setup) (turns : List Turn) (contract : Contract) (side : Side) (zone count : ℕ) (plan : FlowPlan) → IsMarketSetup setup
    → HasZone (graph_of setup) zone
    → let events = journal_events (run_of setup turns) in
    let first = take count (line events contract side) in
    IsPlanOver (graph_of setup) events contract side zone first plan
    → value_of first plan ≤ lots_taken_of first (legs_viewed (graph_of setup) events contract side zone)
