-- What the books of an hour have of the orders and blocks of a caller.
use Rattle.std.specs.Prelude.{◌≡◌, ℕ, List, Option, Some}
use Rattle.std.specs.Option.{option_map}
use Rattle.order_kinds.specs.declared.order.OrderName.{OrderName}
use Rattle.contract_book.specs.declared.resting.Resting.{Resting}
use Rattle.block_book.specs.declared.block.RestingBlock.{RestingBlock}
use Rattle.market_model.specs.declared.event.Event.{Event}
use Rattle.market_model.specs.Orders.{Placed, open_block, open_order, standing}
use Rattle.market_model.specs.Refusals.{if_own, if_own_block, own_limit}
use Rattle.laws_of_books.specs.BookOf.{resting_of}
use Rattle.laws_of_books.specs.BlocksOf.{resting_block}
use Rattle.kept_hour.specs.State.{HourState, name_in}

-- the record of an order after some events
abbrev pub record_of : List Event → Placed → Resting
record_of events order = resting_of (standing events order)

-- the record of the caller's open order of a name, of its plain limit order, and of its block
abbrev pub own_order : List Event → (caller : ℕ) → OrderName → Option Resting
own_order events caller name = option_map (record_of events) (if_own caller (open_order events name))

abbrev pub own_limit_order : List Event → (caller : ℕ) → OrderName → Option Resting
own_limit_order events caller name = option_map (record_of events) (own_limit events caller name)

abbrev pub own_block : List Event → (caller : ℕ) → OrderName → Option RestingBlock
own_block events caller name = option_map (resting_block events) (if_own_block caller (open_block events name))

-- a record is that of the open order of its number
abbrev pub IsOpenAs : HourState → Resting → Type 0
IsOpenAs hour order = option_map (record_of hour.board.events) (open_order hour.board.events (name_in hour order.number)) ≡ Some order
