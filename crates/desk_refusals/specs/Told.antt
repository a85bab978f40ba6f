-- What the events of an hour tell of an order that rests: the event at its moment is its entry, or a leg
-- of it.
use Rattle.std.specs.Prelude.{◌≡◌, ℕ, ◌-◌, ◌≤◌, Bool, false, List, Option, Some, None, slice_get}
use Rattle.order_kinds.specs.declared.contract.Contract.{Contract}
use Rattle.order_kinds.specs.Order.{is_limit}
use Rattle.market_model.specs.declared.event.Event.{Event}
use Rattle.market_model.specs.declared.event.Event.TheVariants as event
use Rattle.market_model.specs.Orders.{Placed}

-- the event at a moment of an hour: its place, counted from 1
abbrev pub event_at : List Event → (moment : ℕ) → Option Event
event_at events moment = slice_get events (moment - 1)

-- the contract in which an event enters an order or trades
abbrev pub contract_told : Option Event → Option Contract
contract_told (Some (event.Entered name caller order)) = Some order.contract
contract_told (Some (event.Leg contract leg)) = Some contract
contract_told _ = None

-- an event enters a plain limit order
abbrev pub enters_limit : Option Event → Bool
enters_limit (Some (event.Entered name caller order)) = is_limit order.kind
enters_limit _ = false

-- the event at a moment tells the contract of an order, and whether it is a plain limit order
pub record Tells (events : List Event) (moment : ℕ) (order : Placed) : Type 0 where
  pub some : 1 ≤ moment
  pub contract : contract_told (event_at events moment) ≡ Some order.order.contract
  pub limit : enters_limit (event_at events moment) ≡ is_limit order.order.kind
