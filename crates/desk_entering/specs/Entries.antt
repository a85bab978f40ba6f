-- An order that enters an hour, and what becomes of it.
use Rattle.std.specs.Prelude.{◌≡◌, ℕ, ◌≤◌, All, List, ◌++◌, length, Option, Some, None}
use Rattle.std.specs.Option.{option_map}
use Rattle.order_kinds.specs.declared.order.Order.{Order}
use Rattle.zone_graph.specs.Graph.{Graph, HasZone}
use Rattle.contract_book.specs.declared.resting.Resting.{Resting}
use Rattle.market_model.specs.declared.command.Command.TheVariants as command
use Rattle.market_model.specs.declared.event.Event.{Event}
use Rattle.market_model.specs.declared.refusal.Refusal.{Refusal}
use Rattle.market_model.specs.declared.refusal.Refusal.TheVariants as refusal
use Rattle.market_model.specs.Board.{IsHourOf}
use Rattle.market_model.specs.Certificate.{bound_of}
use Rattle.market_model.specs.Entering.{after_taking, name_of_next, rest_of, rest_withdrawn, with_order}
use Rattle.market_model.specs.Orders.{Placed, open_names}
use Rattle.market_model.specs.Refusals.{desk_room}
use Rattle.market_model.specs.Rules.{first_broken}
use Rattle.market_model.specs.StateRules.{filling_rules}
use Rattle.match_core.specs.declared.taker.Taker.{Taker}
use Rattle.match_core.specs.Takers.{shown_of, taker_of}
use Rattle.kept_hour.specs.State.{HourState, undone}
use Rattle.desk_entering.specs.declared.obstacle.Obstacle.{Obstacle}
use Rattle.desk_entering.specs.declared.obstacle.Obstacle.TheVariants as obstacle

-- an order can be the next one of an hour with these events
pub record Enters (graph : Graph) (hour : ℕ) (events : List Event) (caller : ℕ) (order : Order) : Type 0 where
  pub in_hour : order.contract.hour ≡ hour
  pub next : IsHourOf graph hour (with_order events caller order)

-- the order under the name that it gets
abbrev pub placed_next : List Event → (caller : ℕ) → Order → Placed
placed_next events caller order = record { name = name_of_next events order; caller = caller; order = order }

-- the hour has the same settled events: undone, it is the same
abbrev pub IsSettledAs : (old new : HourState) → Type 0
IsSettledAs old new = undone new ≡ undone old

-- an order has entered behind the settled events, is in hand, and this stands of it after its legs
pub record HasTaken (hour : HourState) (caller : ℕ) (order : Order) (taker : Taker) : Type 0 where
  pub has_parts : 7 ≤ hour.board.parts
  pub enters : Enters hour.board.grid hour.board.hour hour.settled caller order
  pub few : length (open_names hour.settled hour.board.hour) ≤ desk_room
  pub events : hour.board.events ≡ after_taking hour.board.grid hour.settled caller order
  pub in_hand : hour.board.hand ≡ Some (name_of_next hour.settled order).number
  pub is : taker ≡ taker_of hour.board.events (placed_next hour.settled caller order)

-- the events of an order that is not refused, without the sweep of its hour: its entry, its legs and
-- the withdrawal of an immediate-or-cancel order's rest
abbrev pub ended_events : Graph → List Event → (caller : ℕ) → Order → List Event
ended_events graph events caller order =
    after_taking graph events caller order ++ rest_withdrawn order.kind (name_of_next events order) (rest_of graph events caller order)

-- these stand behind the settled events, and no order is in hand
pub record HasEnded (hour : HourState) (caller : ℕ) (order : Order) : Type 0 where
  pub has_parts : 7 ≤ hour.board.parts
  pub enters : Enters hour.board.grid hour.board.hour hour.settled caller order
  pub events : hour.board.events ≡ ended_events hour.board.grid hour.settled caller order
  pub no_hand : hour.board.hand ≡ None

-- why an order is refused
abbrev pub refusal_for : Graph → List Event → (caller : ℕ) → Order → Obstacle → Refusal
refusal_for graph events caller order (obstacle.Unfilled zones) = refusal.Unfilled zones (bound_of graph events caller order zones)
refusal_for graph events caller order obstacle.DeskFull = refusal.DeskFull

-- the rules on filling refuse it for what was found, or do not where nothing was
abbrev pub IsJudged : HourState → (caller : ℕ) → Order → Option Obstacle → Type 0
IsJudged hour caller order found =
    first_broken (filling_rules hour.board.grid hour.settled caller (command.Enter order))
    ≡ option_map (refusal_for hour.board.grid hour.settled caller order) found

-- the zones that are still in its reach are those of a graph
abbrev pub AreZonesOf : Graph → Obstacle → Type 0
AreZonesOf graph (obstacle.Unfilled zones) = All (HasZone graph) zones
AreZonesOf graph obstacle.DeskFull = Unit {0}

-- the record with which an order in hand comes to rest
abbrev pub rest_record : (caller : ℕ) → Taker → Resting
rest_record caller taker = record {
  number = taker.name.number;
  caller = caller;
  zone = taker.zone;
  side = taker.side;
  price = taker.price;
  left = taker.left;
  shown = shown_of taker;
  moment = taker.moment;
  ice = taker.ice;
}
