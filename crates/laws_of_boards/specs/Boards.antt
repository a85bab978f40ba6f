-- What legs make of a board, and that those of the market can be made on it.
use Rattle.std.specs.Prelude.{◌≡◌, ℕ, ◌<◌, List, ◌∷◌, ◌++◌, Some}
use Rattle.order_kinds.specs.declared.order.OrderName.{OrderName}
use Rattle.order_kinds.specs.declared.contract.Part.{Part}
use Rattle.order_kinds.specs.declared.side.Side.{Side}
use Rattle.order_kinds.specs.Contract.{contract_at}
use Rattle.market_model.specs.declared.event.Event.{Event}
use Rattle.market_model.specs.declared.event.Event.TheVariants as event
use Rattle.market_model.specs.declared.event.Leg.{Leg}
use Rattle.market_model.specs.Board.{BoardState, CanBeMade, IsBoard, after_leg, first_shown, resting_line, shown_behind}
use Rattle.market_model.specs.Orders.{Placed, Standing, placed}
use Rattle.market_model.specs.Sweep.{IsSweep, leg_in, left_in_hour, sweep}
use Rattle.market_model.specs.Taking.{IsTaking, next_leg, take}
use Rattle.zone_graph.specs.Route.{IsIn}

-- a leg that can be made leaves a board
abbrev pub LegsLeaveABoard : Type 0
LegsLeaveABoard = (board : BoardState) (part : ℕ) (leg : Leg) → IsBoard board → CanBeMade board part leg → IsBoard (after_leg board part leg)

-- an event is a leg of a part that can be made
pub record IsLegOf (board : BoardState) (part : ℕ) (given : Event) : Type 0 where
  pub leg : Leg
  pub is : given ≡ event.Leg (contract_at board.hour part) leg
  pub can_be_made : CanBeMade board part leg

-- the next leg of an order of a part can be made
abbrev pub NextLegsCanBeMade : Type 0
NextLegsCanBeMade = (board : BoardState) (part : ℕ) (taker : Placed) (given : Event) → IsBoard board → IsIn taker (placed board.events)
    → taker.order.contract ≡ contract_at board.hour part → next_leg board.grid taker.name board.events ≡ Some given → IsLegOf board part given

-- so can the leg of a part in a sweep
abbrev pub SweepLegsCanBeMade : Type 0
SweepLegsCanBeMade = (board : BoardState) (part : ℕ) (given : Event) → IsBoard board
    → leg_in board.grid board.events (contract_at board.hour part) ≡ Some given → IsLegOf board part given

-- each leg lowers what is left in the hour
abbrev pub LegsLowerTheHour : Type 0
LegsLowerTheHour = (board : BoardState) (part : ℕ) (leg : Leg) → IsBoard board → CanBeMade board part leg
    → left_in_hour (after_leg board part leg).events board.hour < left_in_hour board.events board.hour

-- a run of legs of an order is its taking
abbrev pub BoardTakingsAreRuns : Type 0
BoardTakingsAreRuns = (board : BoardState) (name : OrderName) (legs : List Event) → IsBoard board → name.hour ≡ board.hour
    → IsTaking board.grid board.events name legs → legs ≡ take board.grid board.events name

-- and one of the hour is its sweep
abbrev pub BoardSweepsAreRuns : Type 0
BoardSweepsAreRuns = (board : BoardState) (parts : List Part) (legs : List Event) → IsBoard board
    → IsSweep parts board.grid board.hour board.events legs → legs ≡ sweep parts board.grid board.hour board.events

-- no number stands twice in a line: behind an order of a line the next one is found
abbrev pub WalksGoOn : Type 0
WalksGoOn = (board : BoardState) (part : ℕ) (side : Side) (front back : List Standing) (order : Standing) → IsBoard board
    → resting_line board part side ≡ front ++ (order ∷ back) → shown_behind order.name.number (resting_line board part side) ≡ first_shown back
