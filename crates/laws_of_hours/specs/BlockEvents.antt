-- What the entry of a block makes of the books and flows of its hour, said of the hour's own events.
use Rattle.std.specs.Prelude.{◌≡◌, ℕ, ◌+◌, ◌≤◌, List, length, None}
use Rattle.order_kinds.specs.declared.order.BlockOrder.{BlockOrder}
use Rattle.order_kinds.specs.declared.order.OrderName.{OrderName}
use Rattle.zone_graph.specs.Graph.{Graph}
use Rattle.block_book.specs.Book.{block_of, with_block}
use Rattle.flow_netting.specs.Flows.{Flows}
use Rattle.market_model.specs.declared.event.Event.{Event}
use Rattle.market_model.specs.declared.event.Event.TheVariants as event
use Rattle.market_model.specs.Board.{IsHourOf}
use Rattle.market_model.specs.History.{and_then}
use Rattle.market_model.specs.Orders.{next_name, open_names}
use Rattle.laws_of_books.specs.BookOf.{book_of}
use Rattle.laws_of_books.specs.BlocksOf.{blocks_of, entered_resting_block}
use Rattle.laws_of_hours.specs.Standing.{Stands}

-- a block has entered an hour: it rests in the book of the blocks, whole, under a number that was free, and
-- at most one more is open than before
pub record RestsAsBlock (graph : Graph) (hour : ℕ) (events after : List Event) (name : OrderName) (caller : ℕ) (order : BlockOrder) : Type 0 where
  pub named : name ≡ next_name events hour
  pub free : block_of (blocks_of events hour) name.number ≡ None
  pub book : book_of after hour ≡ book_of events hour
  pub blocks : blocks_of after hour ≡ with_block (blocks_of events hour) (entered_resting_block name caller order (length events + 1))
  pub flows : (flows : Flows) → Stands graph events hour flows → Stands graph after hour flows
  pub few : length (open_names after hour) ≤ length (open_names events hour) + 1
  pub fit : length (blocks_of events hour) ≤ length (open_names events hour)

abbrev pub BlocksEnter : Type 0
BlocksEnter = (graph : Graph) (hour : ℕ) (events : List Event) (name : OrderName) (caller : ℕ) (order : BlockOrder)
    → IsHourOf graph hour (and_then events (event.EnteredBlock name caller order))
    → RestsAsBlock graph hour events (and_then events (event.EnteredBlock name caller order)) name caller order
