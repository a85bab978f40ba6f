-- The fronts of a line: of each zone the order that stands first in it. Who trades first is found
-- among these.
use Rattle.std.specs.Prelude.{◌≡◌, ℕ, ◌<◌, Bool, false, List, [], ◌∷◌, Option, None, if◌then◌else◌}
use Rattle.std.specs.List.{find}
use Rattle.order_kinds.specs.declared.contract.Contract.{Contract}
use Rattle.order_kinds.specs.declared.side.Side.{Side}
use Rattle.order_kinds.specs.declared.side.Side.TheVariants.{Buy, Sell}
use Rattle.order_kinds.specs.Period.{contract_quarters}
use Rattle.order_kinds.specs.Side.{crosses, opposite, prefers}
use Rattle.zone_graph.specs.declared.route.Arc.{Arc}
use Rattle.zone_graph.specs.Graph.{Graph, HasArc, IsGraph}
use Rattle.zone_graph.specs.Route.{IsIn, has}
use Rattle.market_model.specs.declared.event.Event.{Event}
use Rattle.market_model.specs.Lines.{can_trade, line, partner, rooms_for}
use Rattle.market_model.specs.Orders.{Standing}
use Rattle.market_model.specs.Room.{room}
use Rattle.market_model.specs.Sweep.{first_answer, leg_in, resting_trade}
use Rattle.market_model.specs.Taking.{◌>>=◌}

-- the orders of a line that are the first of their zone, besides those of some zones
abbrev pub fronts_besides : (zones : List ℕ) → List Standing → List Standing
fronts_besides zones [] = []
fronts_besides zones (order ∷ orders) =
    if has order.order.zone zones then fronts_besides zones orders else (order ∷ fronts_besides (order.order.zone ∷ zones) orders)

abbrev pub fronts : List Standing → List Standing
fronts orders = fronts_besides [] orders

-- the partner of an order, looked for among the fronts of the opposite line
abbrev pub front_partner : Graph → List Event → (own : Standing) → Option Standing
front_partner graph events own =
    find (can_trade graph (rooms_for events own) own) (fronts (line events own.order.contract (opposite own.order.side)))

abbrev pub PartnersStandInFront : Type 0
PartnersStandInFront = (graph : Graph) (events : List Event) (own : Standing) → partner graph events own ≡ front_partner graph events own

-- the leg of a contract in a sweep, looked for among the first buys of each zone
abbrev pub FirstBuysDecide : Type 0
FirstBuysDecide = (graph : Graph) (events : List Event) (contract : Contract)
    → leg_in graph events contract
    ≡ first_answer (λ buy. front_partner graph events buy >>= resting_trade graph events buy) (fronts (line events contract Buy))

-- the first orders of two lines cross
abbrev pub firsts_cross : (buys sells : List Standing) → Bool
firsts_cross (buy ∷ buys) (sell ∷ sells) = crosses Buy buy.price sell.price
firsts_cross _ _ = false

-- where the best buy and the best sell of a contract do not cross, or one of them is not there, no two
-- of its orders trade
abbrev pub UncrossedContractsHaveNoLeg : Type 0
UncrossedContractsHaveNoLeg = (graph : Graph) (events : List Event) (contract : Contract) → firsts_cross (line events contract Buy) (line events contract Sell) ≡ false
    → leg_in graph events contract ≡ None

-- each order of a line stands in for one of a former line: one of its zone, at no worse a price
abbrev pub StandInFor : Side → (former now : List Standing) → Type 0
StandInFor side former now =
    (order : Standing) → IsIn order now → (old : Standing) × IsIn old former × (order.order.zone ≡ old.order.zone) × (prefers side order.price old.price ≡ false)

-- no arc of a graph got its first room over the quarters of a contract
abbrev pub OpensNoArc : Graph → Contract → (before after : List Event) → Type 0
OpensNoArc graph contract before after =
    (arc : Arc) → HasArc graph arc → 0 < room after (contract_quarters contract) arc → 0 < room before (contract_quarters contract) arc

-- a contract that had no leg in a sweep has none where its orders stand in for former ones and no arc
-- got its first room
abbrev pub UnopenedContractsHaveNoLeg : Type 0
UnopenedContractsHaveNoLeg = (graph : Graph) (before after : List Event) (contract : Contract) → IsGraph graph
    → StandInFor Buy (line before contract Buy) (line after contract Buy) → StandInFor Sell (line before contract Sell) (line after contract Sell)
    → OpensNoArc graph contract before after → leg_in graph before contract ≡ None → leg_in graph after contract ≡ None
