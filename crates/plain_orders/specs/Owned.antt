-- Orders and blocks that are sought by their names.
use Rattle.std.specs.Prelude.{ℕ, List, not, filter, length, Option}
use Rattle.std.specs.List.{find}
use Rattle.order_kinds.specs.declared.order.OrderName.{OrderName}
use Rattle.order_kinds.specs.Same.{same_name}
use Rattle.market_model.specs.declared.event.Event.{Event}
use Rattle.market_model.specs.Orders.{Placed, PlacedBlock, blocks_placed, placed}

-- the first order, and the first block, of a name
abbrev pub placed_as : List Event → OrderName → Option Placed
placed_as events name = find (λ order. same_name order.name name) (placed events)

abbrev pub block_placed_as : List Event → OrderName → Option PlacedBlock
block_placed_as events name = find (λ block. same_name block.name name) (blocks_placed events)

-- how many of some names are another one
abbrev pub other_count : List OrderName → OrderName → ℕ
other_count given name = length (filter (λ other. not (same_name other name)) given)
