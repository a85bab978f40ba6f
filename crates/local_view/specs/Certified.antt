-- Flows and cuts that certify the rows of a view.
use Rattle.std.specs.Prelude.{◌≡◌, ◌≢◌, ℕ, suc, ◌+◌, ◌-◌, ◌<◌, ◌≤◌, ◌==◌, List, [], ◌∷◌, length, min, take, if◌then◌else◌}
use Rattle.order_kinds.specs.declared.side.Side.{Side}
use Rattle.order_kinds.specs.declared.side.Side.TheVariants.{Buy, Sell}
use Rattle.order_kinds.specs.Contract.{contract_at}
use Rattle.order_kinds.specs.Period.{contract_quarters}
use Rattle.zone_graph.specs.declared.route.Arc.{Arc}
use Rattle.zone_graph.specs.Graph.{Graph, HasArc, HasZone, end_of, start_of}
use Rattle.zone_graph.specs.Pour.{opposite_arc}
use Rattle.market_model.specs.declared.event.Event.{Event}
use Rattle.market_model.specs.declared.reply.ViewRow.{ViewRow}
use Rattle.market_model.specs.Board.{IsHourOf}
use Rattle.market_model.specs.Lines.{line}
use Rattle.market_model.specs.Orders.{Standing}
use Rattle.market_model.specs.Room.{room}
use Rattle.market_model.specs.View.{view}
use Rattle.local_view.specs.Poured.{row_if}
use Rattle.local_view.specs.Ways.{PassesOn}
use Rattle.local_view.specs.Whole.{all_shown, shown_in}

-- the zone that lots come from over an arc, and the one that they go to: from sells they come along it, and to
-- buys they go along it, so that what a buy gives comes against it
abbrev pub lots_from : Graph → Side → Arc → ℕ
lots_from graph Sell arc = start_of graph arc
lots_from graph Buy arc = end_of graph arc

abbrev pub lots_to : Graph → Side → Arc → ℕ
lots_to graph Sell arc = end_of graph arc
lots_to graph Buy arc = start_of graph arc

-- what zones have still to give, once an order gave of its zone's lots
abbrev pub left_after : (taken : ℕ → ℕ) → Standing → ℕ → ℕ
left_after taken order zone = if zone == order.order.zone then taken zone - order.shown else taken zone

-- the rows of a line whose zones give so many lots each, the orders of a zone one after the other
unfoldable pub rows_in_turn : (taken : ℕ → ℕ) → List Standing → List ViewRow
rows_in_turn taken [] = []
rows_in_turn taken (order ∷ orders) = row_if order.price (min order.shown (taken order.order.zone)) (rows_in_turn (left_after taken order) orders)

-- a flow certifies how many lots each zone gives to a taker in a zone. It is within the rooms and balanced. Each zone
-- has a cut, a place of the line: its orders before the cut give all that they show, and those behind it nothing; the
-- taker's own zone has none. And an arc with room to spare leads only to a zone whose cut is no later than that of the
-- zone that lots come from over it
pub record IsCertified (graph : Graph) (room : Arc → ℕ) (side : Side) (zone : ℕ) (orders : List Standing) (flow : Arc → ℕ) (taken cut : ℕ → ℕ) : Type 0 where
  pub within : (arc : Arc) → HasArc graph arc → flow arc ≤ room arc + flow (opposite_arc arc)
  pub balanced : (other : ℕ) → HasZone graph other → other ≢ zone → PassesOn graph side flow other (taken other)
  pub before : (other : ℕ) → HasZone graph other → shown_in (take (cut other) orders) other ≤ taken other
  pub behind : (other : ℕ) → HasZone graph other → taken other ≤ shown_in (take (suc (cut other)) orders) other
  pub own : length orders ≤ cut zone
  pub closed : (arc : Arc) → HasArc graph arc → flow arc < room arc + flow (opposite_arc arc) → cut (lots_to graph side arc) ≤ cut (lots_from graph side arc)

-- the rows of a certified line are the view
abbrev pub CertifiedRowsAreViews : Type 0
CertifiedRowsAreViews = (graph : Graph) (hour : ℕ) (events : List Event) (part : ℕ) (side : Side) (zone : ℕ) (flow : Arc → ℕ) (taken cut : ℕ → ℕ)
    → IsHourOf graph hour events → HasZone graph zone
    → let orders = line events (contract_at hour part) side in
    IsCertified graph (room events (contract_quarters (contract_at hour part))) side zone orders flow taken cut → all_shown orders ≤ 4294967295
    → view graph events (contract_at hour part) side zone ≡ rows_in_turn taken orders
