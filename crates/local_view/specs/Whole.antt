-- Lines of which a view is the whole: each order has all that it shows.
use Rattle.std.specs.Prelude.{◌≡◌, ℕ, ◌<◌, ◌≤◌, ◌==◌, true, List, [], ◌∷◌, filter, map, slice_index_or, sum_by}
use Rattle.order_kinds.specs.declared.side.Side.{Side}
use Rattle.order_kinds.specs.Contract.{contract_at}
use Rattle.zone_graph.specs.Graph.{Graph, HasZone}
use Rattle.zone_graph.specs.Route.{IsIn}
use Rattle.market_model.specs.declared.event.Event.{Event}
use Rattle.market_model.specs.declared.reply.ViewRow.{ViewRow}
use Rattle.market_model.specs.Board.{BoardState, IsBoard, IsHourOf, resting_line}
use Rattle.market_model.specs.Lines.{line}
use Rattle.market_model.specs.Orders.{Standing}
use Rattle.market_model.specs.View.{view}
use Rattle.laws_of_maximum.specs.FlowPlan.{FlowPlan}
use Rattle.laws_of_views.specs.Views.{IsPlanOver}
use Rattle.local_view.specs.declared.whole.LineOrder.{LineOrder}
use Rattle.local_view.specs.declared.whole.WholeLine.{WholeLine}
use Rattle.local_view.specs.Poured.{row_if}

-- the rows in which each of some orders has all that it shows
abbrev pub rows_shown : List Standing → List ViewRow
rows_shown [] = []
rows_shown (order ∷ orders) = row_if order.price order.shown (rows_shown orders)

-- what some orders show together
abbrev pub all_shown : List Standing → ℕ
all_shown orders = sum_by (λ order. order.shown) orders

-- what those of a zone show
abbrev pub shown_in : List Standing → (zone : ℕ) → ℕ
shown_in orders zone = all_shown (filter (λ order. order.order.zone == zone) orders)

-- where a flow plan over a line gives all that its orders show, and that is no more than a view asks for,
-- the view is the line itself
abbrev pub WholeLinesAreViews : Type 0
WholeLinesAreViews = (graph : Graph) (hour : ℕ) (events : List Event) (part : ℕ) (side : Side) (zone : ℕ) (plan : FlowPlan) → IsHourOf graph hour events → HasZone graph zone
    → let orders = line events (contract_at hour part) side in
    IsPlanOver graph events (contract_at hour part) side zone orders plan → ((order : Standing) → IsIn order orders → plan.gives order ≡ order.shown)
    → all_shown orders ≤ 4294967295 → view graph events (contract_at hour part) side zone ≡ rows_shown orders

-- an order as views see it
abbrev pub in_line : Standing → LineOrder
in_line order = record { zone = order.order.zone; price = order.price; lots = order.shown }

-- a line of a board is read: its orders and rows, and where it fits in what a view asks for its sums too
pub record IsRead (board : BoardState) (part : ℕ) (side : Side) (whole : WholeLine) : Type 0 where
  pub is_board : IsBoard board
  pub orders : whole.orders.items ≡ map in_line (resting_line board part side)
  pub rows : whole.rows.items ≡ rows_shown (resting_line board part side)
  pub zones : whole.fits ≡ true → (zone : ℕ) → zone < 64 → slice_index_or whole.shown zone 0 ≡ shown_in (resting_line board part side) zone
  pub few : whole.fits ≡ true → all_shown (resting_line board part side) ≤ 4294967295
