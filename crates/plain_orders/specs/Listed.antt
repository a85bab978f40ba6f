-- The orders and blocks of an hour as they stand, and the lines that they make.
use Rattle.std.specs.Prelude.{◌≡◌, ℕ, Bool, true, ◌==◌, ◌&&◌, List, [], ◌∷◌, map, filter, nat_lt, Option, Some, None, if◌then◌else◌}
use Rattle.std.specs.Ordering.{is_lt}
use Rattle.order_kinds.specs.declared.contract.Contract.{Contract}
use Rattle.order_kinds.specs.declared.price.Price.{Price}
use Rattle.order_kinds.specs.declared.side.Side.{Side}
use Rattle.order_kinds.specs.Same.{same_contract, same_side}
use Rattle.order_kinds.specs.Side.{prefers}
use Rattle.market_model.specs.declared.event.Event.{Event}
use Rattle.market_model.specs.Blocks.{StandingBlock, block_line, block_priority_cmp, is_of_period, standing_block}
use Rattle.market_model.specs.Lines.{line, priority_cmp}
use Rattle.market_model.specs.Orders.{Placed, PlacedBlock, Standing, block_placed_by, blocks_placed, is_open, placed, placed_by, standing}
use Rattle.plain_orders.specs.Histories.{IsSomeHistory}
use Rattle.zone_graph.specs.InOrder.{in_order}

-- an order, and a block, is named by an hour
abbrev pub is_order_of : (hour : ℕ) → Placed → Bool
is_order_of hour order = order.name.hour == hour

abbrev pub is_block_of : (first : ℕ) → PlacedBlock → Bool
is_block_of first block = block.name.hour == first

-- what is there, if it passes a test
abbrev pub kept : {X : Type 0} → (X → Bool) → Option X → Option X
kept test None = None
kept test (Some x) = if test x then Some x else None

-- the order, and the block, that an event enters by an hour
abbrev pub order_given : (hour : ℕ) → Event → Option Placed
order_given hour event = kept (is_order_of hour) (placed_by event)

abbrev pub block_given : (first : ℕ) → Event → Option PlacedBlock
block_given first event = kept (is_block_of first) (block_placed_by event)

-- an order that entered is open
abbrev pub stands_open : List Event → Placed → Bool
stands_open events order = is_open events order.name

-- the open orders that are named by an hour, in order of entry, as they stand
abbrev pub open_orders : List Event → (hour : ℕ) → List Standing
open_orders events hour = map (standing events) (filter (stands_open events) (filter (is_order_of hour) (placed events)))

-- all blocks that are named by an hour, in order of entry, as they stand
abbrev pub blocks_of : List Event → (first : ℕ) → List StandingBlock
blocks_of events first = map (standing_block events) (filter (is_block_of first) (blocks_placed events))

-- an order as it stands is open, of a contract and on a side
abbrev pub is_in_line : Contract → Side → Standing → Bool
is_in_line contract side order =
    nat_lt 0 order.left && same_contract order.order.contract contract && same_side order.order.side side

-- a block as it stands is open, of a period and on a side
abbrev pub is_in_block_line : (first last : ℕ) → Side → StandingBlock → Bool
is_in_block_line first last side block =
    nat_lt 0 block.left && is_of_period first last block.order && same_side block.order.side side

-- the line of a contract and side that some orders make, and of a period and side that blocks make
abbrev pub line_of : List Standing → Contract → Side → List Standing
line_of orders contract side = in_order (priority_cmp side) (filter (is_in_line contract side) orders)

abbrev pub block_line_of : List StandingBlock → (first last : ℕ) → Side → List StandingBlock
block_line_of blocks first last side =
    in_order (block_priority_cmp side) (filter (is_in_block_line first last side) blocks)

-- the price of the first order of a line
abbrev pub first_price : List Standing → Option Price
first_price [] = None
first_price (first ∷ rest) = Some first.price

-- the best price of the line of a contract and side
abbrev pub best_price : List Standing → Contract → Side → Option Price
best_price orders contract side = first_price (line_of orders contract side)

-- the better of a price of a side and the best so far, if there is one
abbrev pub better_of : Side → Price → Option Price → Price
better_of side price None = price
better_of side price (Some best) = if prefers side price best then price else best

-- the best price of a line so far, with an order that may be of it
abbrev pub best_with : Contract → Side → Standing → Option Price → Option Price
best_with contract side order best = if is_in_line contract side order then Some (better_of side order.price best) else best

-- an order of a side has priority over the first one so far, if there is one
abbrev pub goes_first : Side → Standing → Option Standing → Bool
goes_first side order None = true
goes_first side order (Some first) = is_lt (priority_cmp side order first)

-- an order is the first of a line so far that meets a test
abbrev pub is_first : (Standing → Bool) → Contract → Side → Standing → (so_far : Option Standing) → Bool
is_first test contract side order so_far = is_in_line contract side order && (test order && goes_first side order so_far)

-- the open orders of an hour make the lines of its contracts
abbrev pub LinesAreOfOrders : Type 0
LinesAreOfOrders = (events : List Event) (contract : Contract) (side : Side) → IsSomeHistory events
    → line_of (open_orders events contract.hour) contract side ≡ line events contract side

-- the blocks that are named by an hour make the lines of the periods that it begins
abbrev pub BlockLinesAreOfBlocks : Type 0
BlockLinesAreOfBlocks = (events : List Event) (first last : ℕ) (side : Side) → IsSomeHistory events
    → block_line_of (blocks_of events first) first last side ≡ block_line events first last side
