-- What a caller has open under a name.
use Rattle.std.specs.Prelude.{ℕ, List, Option, Some, None}
use Rattle.std.specs.Option.{option_map}
use Rattle.order_kinds.specs.declared.order.OrderName.{OrderName}
use Rattle.order_kinds.specs.Contract.{part_number}
use Rattle.market_model.specs.declared.event.Event.{Event}
use Rattle.market_model.specs.Orders.{Placed, PlacedBlock, left, open_block, open_order}
use Rattle.market_model.specs.Refusals.{if_own, if_own_block}
use Rattle.desk_refusals.specs.declared.owning.Own.{Own}
use Rattle.desk_refusals.specs.declared.owning.Own.TheVariants as own

-- an order, with its part and what is left of it, and a block, with what is left of it
abbrev pub of_order : List Event → Placed → Own
of_order events order = own.Order (part_number order.order.contract.part) (left events order.name)

abbrev pub of_block : List Event → PlacedBlock → Own
of_block events block = own.Block (left events block.name)

-- the caller's open order of this name, or else its block
abbrev pub own_of : List Event → (caller : ℕ) → OrderName → Option Own
own_of events caller name = by (if_own caller (open_order events name))
  where
    by : Option Placed → Option Own
    by (Some order) = Some (of_order events order)
    by None = option_map (of_block events) (if_own_block caller (open_block events name))

-- the number of the part in which it rests: that of the hour for a block, which rests in none
abbrev pub part_of : Own → ℕ
part_of (own.Order part left) = part
part_of (own.Block left) = 0

-- the lots that are left of it
abbrev pub left_of : Own → ℕ
left_of (own.Order part left) = left
left_of (own.Block left) = left
