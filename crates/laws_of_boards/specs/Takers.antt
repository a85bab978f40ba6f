-- How an order takes on a board: whom it passes over, what its legs leave of the opposite line, and
-- that it obtains the most.
use Rattle.std.specs.Prelude.{◌≡◌, ℕ, ◌≤◌, ◌⊎◌, false, List, ◌∷◌, ◌++◌, length, Some}
use Rattle.order_kinds.specs.Contract.{contract_at}
use Rattle.order_kinds.specs.Side.{opposite}
use Rattle.zone_graph.specs.Graph.{Graph}
use Rattle.zone_graph.specs.Route.{IsIn}
use Rattle.market_model.specs.declared.event.Event.{Event}
use Rattle.market_model.specs.declared.event.Event.TheVariants as event
use Rattle.market_model.specs.declared.event.Leg.{Leg}
use Rattle.market_model.specs.Board.{BoardState, IsBoard, resting_line, with_events}
use Rattle.market_model.specs.Certificate.{bound_of, unfilled_zones}
use Rattle.market_model.specs.History.{and_then}
use Rattle.market_model.specs.Lines.{can_trade, rooms_for}
use Rattle.market_model.specs.Orders.{Placed, Standing, placed, standing}
use Rattle.market_model.specs.Taking.{next_leg}
use Rattle.laws_of_maximum.specs.FlowPlan.{FlowPlan, IsPlanFor, orders_met, value_of}
use Rattle.laws_of_maximum.specs.Takings.{HasNoDelta, obtained}

-- whom a taker of an hour cannot trade with before its next leg, it cannot trade with after it
abbrev pub BoardTakersPassForGood : Type 0
BoardTakersPassForGood = (board : BoardState) (taker : Placed) (leg : Event) (other : Standing) → IsBoard board
    → IsIn taker (placed board.events) → taker.order.contract.hour ≡ board.hour → next_leg board.grid taker.name board.events ≡ Some leg
    → can_trade board.grid (rooms_for board.events (standing board.events taker)) (standing board.events taker) other ≡ false
    → let after = and_then board.events leg in
    can_trade board.grid (rooms_for after (standing after taker)) (standing after taker) other ≡ false

-- the line after a leg: the orders in front of the maker stand as they stood, and no more are behind
-- them than before
pub record StandsInFront (front back after : List Standing) : Type 0 where
  pub rest : List Standing
  pub is : after ≡ front ++ rest
  pub few : length rest ≤ length back

-- a next leg leaves the opposite line in front of its maker
abbrev pub LegsStayBehind : Type 0
LegsStayBehind = (board : BoardState) (part : ℕ) (taker : Placed) (leg : Leg) (front back : List Standing) (maker : Standing) → IsBoard board
    → IsIn taker (placed board.events) → taker.order.contract ≡ contract_at board.hour part
    → next_leg board.grid taker.name board.events ≡ Some (event.Leg (contract_at board.hour part) leg)
    → leg.maker ≡ maker.name
    → resting_line board part (opposite taker.order.side) ≡ front ++ (maker ∷ back)
    → let after = with_events board (and_then board.events (event.Leg (contract_at board.hour part) leg)) in
    StandsInFront front (maker ∷ back) (resting_line after part (opposite taker.order.side))

-- a list of events ends with the entry of an order
pub record EndsWithEntry (before events : List Event) (order : Placed) : Type 0 where
  pub is : events ≡ and_then before (event.Entered order.name order.caller order.order)

-- where the events of an hour end with the entry of an order, what it obtains is its whole quantity, or
-- exactly the bound of the zones that are still in reach when its taking ends; of an iceberg this
-- holds where its peaks are all at one price. No flow plan for it is worth more, unless it is filled
pub record ObtainsTheMost (graph : Graph) (before : List Event) (order : Placed) : Type 0 where
  pub reached : HasNoDelta order.order.kind
      → (obtained graph before order.caller order.order ≡ order.order.quantity.0)
      ⊎ (obtained graph before order.caller order.order ≡ bound_of graph before order.caller order.order (unfilled_zones graph before order.caller order.order))
  pub most : (plan : FlowPlan) → HasNoDelta order.order.kind → IsPlanFor graph before order.caller order.order plan
      → (obtained graph before order.caller order.order ≡ order.order.quantity.0)
      ⊎ (value_of (orders_met before order.caller order.order) plan ≤ obtained graph before order.caller order.order)

abbrev pub BoardTakingsObtainTheMost : Type 0
BoardTakingsObtainTheMost = (board : BoardState) (before : List Event) (order : Placed) → IsBoard board → EndsWithEntry before board.events order
    → order.order.contract.hour ≡ board.hour → ObtainsTheMost board.grid before order
