-- What the store of an hour keeps for its events: their books, without the order in hand, and their flows.
use Rattle.std.specs.Prelude.{◌≡◌, ℕ, ◌<◌, ◌≤◌, true, List, ◌++◌, Option, Some, count_by, length, take}
use Rattle.std.specs.List.{list_any}
use Rattle.order_kinds.specs.declared.side.Side.{Side}
use Rattle.zone_graph.specs.Graph.{Graph}
use Rattle.zone_graph.specs.Route.{IsIn}
use Rattle.laws_of_books.specs.BookOf.{book_of}
use Rattle.laws_of_books.specs.BlockLaws.{IsOfOrder}
use Rattle.laws_of_books.specs.BlocksOf.{blocks_of}
use Rattle.laws_of_hours.specs.Standing.{Stands}
use Rattle.market_model.specs.declared.event.Event.{Event}
use Rattle.market_model.specs.Board.{BoardState, IsBoard}
use Rattle.market_model.specs.History.{enters_in}
use Rattle.market_model.specs.Orders.{Placed, placed}
use Rattle.laws_of_hours.specs.OrderEvents.{without_hand}
use Rattle.laws_of_views.specs.Changes.{zones_of_events}
use Rattle.hour_store.specs.declared.change.Change.{Change}
use Rattle.hour_store.specs.Changed.{changes_flows, has_changed}
use Rattle.hour_store.specs.Contents.{Contents}
use Rattle.hour_store.specs.Store.{GoesBackTo, Store}
use Rattle.kept_hour.specs.Planned.{moves_flows, planned_of, planned_zones}
use Rattle.kept_hour.specs.State.{HourState, name_in, settled_board}

-- books and flows are those of the events of a board; the order in hand does not rest
pub record AreOf (board : BoardState) (contents : Contents) : Type 0 where
  pub book : contents.book ≡ without_hand board.hand (book_of board.events board.hour)
  pub blocks : contents.blocks ≡ blocks_of board.events board.hour
  pub flows : Stands board.grid board.events board.hour contents.flows

-- how many names the hour has given
abbrev pub names_given : BoardState → ℕ
names_given board = count_by (enters_in board.hour) board.events

-- what a store notes is of what is planned: orders that the planned events name, as they do the one in hand, and
-- flows where they are of such
pub record IsNotedOf (hour : HourState) (changes : List Change) : Type 0 where
  pub first : hour.board.events ≡ hour.settled ++ planned_of hour
  pub orders : (part : ℕ) (side : Side) (zone : ℕ) → part < 7 → has_changed changes part side zone ≡ true → IsIn zone (planned_zones hour part side)
  pub hand : (number : ℕ) (order : Placed) → hour.board.hand ≡ Some number → IsIn order (placed hour.board.events) → order.name ≡ name_in hour number
      → IsIn order.order.zone (zones_of_events hour.settled (planned_of hour) order.order.contract order.order.side)
  pub flows : list_any changes_flows changes ≡ true → list_any moves_flows (planned_of hour) ≡ true

-- a store keeps an hour: its contents are those of the board, its changes lead back to those of the
-- settled board, are of what is planned, and the names that the hour has given are counted
pub record Keeps (hour : HourState) (numbers settled_numbers : ℕ) (store : Store) : Type 0 where
  pub board : IsBoard hour.board
  pub contents : AreOf hour.board store.contents
  pub numbered : numbers ≡ names_given hour.board
  pub in_hand : (number : ℕ) → hour.board.hand ≡ Some number → IsOfOrder hour.board.events (name_in hour number)
  pub settled : IsBoard (settled_board hour)
  pub settled_numbered : settled_numbers ≡ names_given (settled_board hour)
  pub target : Contents
  pub back : GoesBackTo store target
  pub target_of : AreOf (settled_board hour) target
  pub noted : IsNotedOf hour store.changes

-- the state of an hour whose first events are settled
abbrev pub hour_of : Graph → (number : ℕ) → (events : List Event) → (settled : ℕ) → (hand : Option ℕ) → HourState
hour_of graph number events settled hand = record {
  board = record { grid = graph; hour = number; parts = 7; events = events; hand = hand };
  settled = take settled events;
}

-- what a kept hour always keeps
pub record IsKept (hour : HourState) (settled numbers settled_numbers : ℕ) (store : Store) : Type 0 where
  pub first_part : settled ≤ length hour.board.events
  pub keeps : Keeps hour numbers settled_numbers store
