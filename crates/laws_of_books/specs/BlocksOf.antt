-- The book of the blocks of an hour as the market's definitions have it: the open blocks that start
-- in the hour, each as the book records it.
use Rattle.std.specs.Prelude.{ℕ, Bool, ◌==◌, ◌&&◌, List, map, filter, Option, Some, None}
use Rattle.order_kinds.specs.declared.order.BlockOrder.{BlockOrder}
use Rattle.order_kinds.specs.declared.order.OrderName.{OrderName}
use Rattle.zone_graph.specs.InOrder.{in_order}
use Rattle.block_book.specs.declared.block.RestingBlock.{RestingBlock}
use Rattle.block_book.specs.Blocks.{number_cmp}
use Rattle.market_model.specs.declared.event.Event.{Event}
use Rattle.market_model.specs.Blocks.{StandingBlock}
use Rattle.market_model.specs.Orders.{PlacedBlock, block_moment, blocks_placed, is_open, left, open_block}

-- a block of a history as it stands
abbrev pub resting_block : List Event → PlacedBlock → RestingBlock
resting_block events block = record {
  number = block.name.number;
  caller = block.caller;
  zone = block.order.zone;
  side = block.order.side;
  price = block.order.price;
  quantity = left events block.name;
  last = block.order.last;
  moment = block_moment events block;
}

-- a block is open and starts in an hour
abbrev pub rests_from : List Event → (first : ℕ) → PlacedBlock → Bool
rests_from events first block = is_open events block.name && (block.order.first == first)

-- the open blocks of a history that start in an hour, by ascending number
unfoldable pub blocks_of : List Event → (first : ℕ) → List RestingBlock
blocks_of events first = in_order number_cmp (map (resting_block events) (filter (rests_from events first) (blocks_placed events)))

-- whose the open block of a name is
abbrev pub caller_of : List Event → OrderName → ℕ
caller_of events name = of_block (open_block events name)
  where
    of_block : Option PlacedBlock → ℕ
    of_block None = 0
    of_block (Some block) = block.caller

-- a block that stands, as a book records it
abbrev pub record_of : List Event → StandingBlock → RestingBlock
record_of events standing = record {
  number = standing.name.number;
  caller = caller_of events standing.name;
  zone = standing.order.zone;
  side = standing.order.side;
  price = standing.order.price;
  quantity = standing.left;
  last = standing.order.last;
  moment = standing.moment;
}

-- the record of a block that enters with all its lots
abbrev pub entered_resting_block : OrderName → (caller : ℕ) → BlockOrder → (moment : ℕ) → RestingBlock
entered_resting_block name caller order moment = record {
  number = name.number;
  caller = caller;
  zone = order.zone;
  side = order.side;
  price = order.price;
  quantity = order.quantity.0;
  last = order.last;
  moment = moment;
}
