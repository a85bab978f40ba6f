-- How an order in hand takes on a board, and what it obtains.
use Rattle.std.specs.Prelude.{◌≡◌, ℕ, ◌+◌, ◌≤◌, ◌⊎◌, ◌++◌, List, drop, length}
use Rattle.std.specs.Prelude.{take as first}
use Rattle.order_kinds.specs.declared.order.Order.{Order}
use Rattle.order_kinds.specs.declared.order.OrderName.{OrderName}
use Rattle.order_kinds.specs.Contract.{contract_at}
use Rattle.order_kinds.specs.Period.{contract_quarters}
use Rattle.order_kinds.specs.Side.{opposite}
use Rattle.zone_graph.specs.declared.route.Arc.{Arc}
use Rattle.market_model.specs.declared.event.Event.{Event}
use Rattle.market_model.specs.Board.{BoardState, with_events}
use Rattle.market_model.specs.Certificate.{crossing_lots, zones_in_reach}
use Rattle.market_model.specs.Lines.{line}
use Rattle.market_model.specs.Orders.{Placed, Standing}
use Rattle.market_model.specs.Room.{room}
use Rattle.market_model.specs.Taking.{take}
use Rattle.laws_of_maximum.specs.FlowPlan.{FlowPlan, IsFlowPlan, bound_with, value_of}
use Rattle.laws_of_maximum.specs.Takings.{lots_traded}
use Rattle.laws_of_boards.specs.Takers.{EndsWithEntry}
use Rattle.match_core.specs.declared.taker.Taker.{Taker}
use Rattle.match_core.specs.Takers.{taker_of}

-- an order has just entered in a part of a board's hour
pub record HasEntered (board : BoardState) (part : ℕ) (taker : Taker) : Type 0 where
  pub order : Placed
  pub before : List Event
  pub entry : EndsWithEntry before board.events order
  pub of_part : order.order.contract ≡ contract_at board.hour part
  pub is : taker ≡ taker_of board.events order

-- the board after the taking of an order
abbrev pub after_taking : BoardState → OrderName → BoardState
after_taking board name = with_events board (board.events ++ take board.grid board.events name)

-- some of the legs of a taking were made, the first of them
pub record HasBegun (before after : BoardState) (name : OrderName) : Type 0 where
  pub count : ℕ
  pub is : after ≡ with_events before (before.events ++ first count (take before.grid before.events name))

-- ---- what is obtained

-- the rooms of an order's contract on a board, and the orders that it meets there: those of the opposite line
abbrev pub rooms_on : BoardState → Order → Arc → ℕ
rooms_on board order = room board.events (contract_quarters order.contract)

abbrev pub orders_on : BoardState → Order → List Standing
orders_on board order = line board.events order.contract (opposite order.side)

-- the zones that are in an order's reach on a board
abbrev pub zones_on : BoardState → Order → List ℕ
zones_on board order = zones_in_reach board.grid (rooms_on board order) order.side order.zone

-- the most that it can obtain there of some zones and from outside them
abbrev pub bound_on : BoardState → Order → (zones : List ℕ) → ℕ
bound_on board order zones = bound_with board.grid (rooms_on board order) order.side (orders_on board order) (crossing_lots order) zones

-- a flow plan for it: each of the orders that it meets gives no more than what of it crosses
abbrev pub IsPlanOn : BoardState → Order → FlowPlan → Type 0
IsPlanOn board order plan = IsFlowPlan board.grid (rooms_on board order) order.side order.zone (orders_on board order) (crossing_lots order) plan

-- the lots of the legs that were made from one board to another
abbrev pub lots_made : (before after : BoardState) → ℕ
lots_made before after = lots_traded (drop (length before.events) after.events)

-- an order, so much of which was left on the one board, has obtained the most on the other: the legs made the rest of it what
-- it is; it is filled, or they are worth exactly the bound of the zones that are still in its reach, and no less than any flow
-- plan for it
pub record HasObtainedTheMost (before after : BoardState) (order : Order) (left rest : ℕ) : Type 0 where
  pub made : lots_made before after + rest ≡ left
  pub reached : (rest ≡ 0) ⊎ (lots_made before after ≡ bound_on before order (zones_on after order))
  pub most : (plan : FlowPlan) → IsPlanOn before order plan → (rest ≡ 0) ⊎ (value_of (orders_on before order) plan ≤ lots_made before after)
