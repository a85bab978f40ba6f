-- The state of orders and blocks, from the events that name them. Icebergs, and trades by price and
-- then time, are in the public description of continuous matching; the exact moments are this
-- market's own. Lots are tenths of a MW.
use Rattle.std.specs.Prelude.{ℕ, ◌+◌, ◌-◌, ◌%◌, Bool, false, ◌==◌, ◌&&◌, ◌||◌, List, [], ◌∷◌, filter, count_by, sum_by, length, nat_lt, Option, Some, None, if◌then◌else◌}
use Rattle.std.specs.List.{filter_map, find}
use Rattle.order_kinds.specs.declared.order.BlockOrder.{BlockOrder}
use Rattle.order_kinds.specs.declared.order.Kind.{Kind}
use Rattle.order_kinds.specs.declared.order.Kind.TheVariants as kind
use Rattle.order_kinds.specs.declared.order.Order.{Order}
use Rattle.order_kinds.specs.declared.order.OrderName.{OrderName}
use Rattle.order_kinds.specs.declared.price.Price.{Price}
use Rattle.order_kinds.specs.Same.{same_name}
use Rattle.iceberg_peak.specs.Peak.{peak_shown, showing_price}
use Rattle.zone_graph.specs.Pour.{lots_if}
use Rattle.market_model.specs.declared.event.Event.{Event}
use Rattle.market_model.specs.declared.event.Event.TheVariants as event
use Rattle.market_model.specs.declared.event.Leg.{Leg}
use Rattle.market_model.specs.History.{and_then, enters_in, of_hour}

-- a leg is of an order or block: as its taker or as its maker
abbrev pub names : Leg → OrderName → Bool
names leg name = same_name leg.taker name || same_name leg.maker name

-- the lots with which an event enters an order or block
abbrev pub entered_by : OrderName → Event → ℕ
entered_by name (event.Entered entered caller order) = lots_if (same_name entered name) order.quantity.0
entered_by name (event.EnteredBlock entered caller order) = lots_if (same_name entered name) order.quantity.0
entered_by name _ = 0

-- the lots that an event fills of an order or block: those of a leg of it
abbrev pub filled_by : OrderName → Event → ℕ
filled_by name (event.Leg contract leg) = lots_if (names leg name) leg.lots
filled_by name (event.BlockLeg first last leg) = lots_if (names leg name) leg.lots
filled_by name _ = 0

-- the lots that an event takes off an order or block without a trade
abbrev pub taken_off_by : OrderName → Event → ℕ
taken_off_by name (event.Withdrawn withdrawn lots) = lots_if (same_name withdrawn name) lots
taken_off_by name (event.Reduced reduced by) = lots_if (same_name reduced name) by
taken_off_by name _ = 0

-- what was entered of an order or block, what is filled of it, and what was taken off it
abbrev pub entered : List Event → OrderName → ℕ
entered events name = sum_by (entered_by name) events

abbrev pub filled : List Event → OrderName → ℕ
filled events name = sum_by (filled_by name) events

abbrev pub taken_off : List Event → OrderName → ℕ
taken_off events name = sum_by (taken_off_by name) events

-- what is left of an order or block: what was entered, less what is filled and what was taken off
abbrev pub left : List Event → OrderName → ℕ
left events name = entered events name - (filled events name + taken_off events name)

-- an order or block is open: something is left of it
abbrev pub is_open : List Event → OrderName → Bool
is_open events name = nat_lt 0 (left events name)

-- the name that an event gives to an order or block that enters by this hour
abbrev pub name_given : (hour : ℕ) → Event → Option OrderName
name_given hour (event.Entered name caller order) = if name.hour == hour then Some name else None
name_given hour (event.EnteredBlock name caller order) = if name.hour == hour then Some name else None
name_given hour _ = None

-- the names of the open orders and blocks that are named by an hour, in order of entry
abbrev pub open_names : List Event → (hour : ℕ) → List OrderName
open_names events hour = filter (is_open events) (filter_map (name_given hour) events)

-- the name of the next order or block that enters by an hour: they are numbered from 1
abbrev pub next_name : List Event → (hour : ℕ) → OrderName
next_name events hour = record { hour = hour; number = count_by (enters_in hour) events + 1 }

-- an order as it entered
pub record Placed : Type 0 where
  pub name : OrderName
  pub caller : ℕ
  pub order : Order

-- a block as it entered
pub record PlacedBlock : Type 0 where
  pub name : OrderName
  pub caller : ℕ
  pub order : BlockOrder

abbrev pub placed_by : Event → Option Placed
placed_by (event.Entered name caller order) = Some (record { name = name; caller = caller; order = order })
placed_by _ = None

abbrev pub block_placed_by : Event → Option PlacedBlock
block_placed_by (event.EnteredBlock name caller order) = Some (record { name = name; caller = caller; order = order })
block_placed_by _ = None

-- all orders, and all blocks, that entered, in order
abbrev pub placed : List Event → List Placed
placed events = filter_map placed_by events

abbrev pub blocks_placed : List Event → List PlacedBlock
blocks_placed events = filter_map block_placed_by events

-- the order, and the block, of this name that is open
abbrev pub open_order : List Event → OrderName → Option Placed
open_order events name = find (λ order. same_name order.name name && is_open events order.name) (placed events)

abbrev pub open_block : List Event → OrderName → Option PlacedBlock
open_block events name = find (λ block. same_name block.name name && is_open events block.name) (blocks_placed events)

-- so many filled lots end a peak of an iceberg
abbrev pub ends_peak : Kind → (filled : ℕ) → Bool
ends_peak (kind.Iceberg peak delta) filled = filled % peak.0 == 0
ends_peak _ filled = false

-- an event gives an order its moment: it enters it, or it is the leg that empties a peak of it
abbrev pub gives_moment : Placed → (before : List Event) → Event → Bool
gives_moment order before (event.Entered name caller entering) = same_name name order.name
gives_moment order before (event.Leg contract leg) =
    names leg order.name && ends_peak order.order.kind (filled (and_then before (event.Leg contract leg)) order.name)
gives_moment order before _ = false

-- an event enters a block
abbrev pub enters_block : PlacedBlock → (before : List Event) → Event → Bool
enters_block block before (event.EnteredBlock name caller entering) = same_name name block.name
enters_block block before _ = false

-- the last place, counted from 1, at which a test holds of the events before it and the event
-- there, else a place that was found before
abbrev pub last_place_from : (List Event → Event → Bool) → (before : List Event) → (found : ℕ) → List Event → ℕ
last_place_from test before found [] = found
last_place_from test before found (event ∷ events) =
    last_place_from test (and_then before event) (if test before event then length before + 1 else found) events

abbrev pub last_place : (List Event → Event → Bool) → List Event → ℕ
last_place test events = last_place_from test [] 0 events

-- the moment of an order, its place in time: where in its hour's events it entered, or where a leg
-- last emptied one of its peaks
abbrev pub moment : List Event → Placed → ℕ
moment events order = last_place (gives_moment order) (of_hour order.name.hour events)

-- the moment of a block: where in its first hour's events it entered
abbrev pub block_moment : List Event → PlacedBlock → ℕ
block_moment events block = last_place (enters_block block) (of_hour block.name.hour events)

-- what an order of this kind shows, of which so much is filled and left: an iceberg what is left
-- of its peak, any other order all
abbrev pub shown_lots : Kind → (filled left : ℕ) → ℕ
shown_lots (kind.Iceberg peak delta) filled left = peak_shown peak.0 filled left
shown_lots _ filled left = left

-- the price of an order of which so much is filled: an iceberg's that of its showing peak
abbrev pub price_now : Order → (filled : ℕ) → Price
price_now order filled = by_kind order.kind
  where
    by_kind : Kind → Price
    by_kind (kind.Iceberg peak delta) = showing_price order.side order.price peak.0 delta filled
    by_kind _ = order.price

-- an order as it stands after some events
pub record Standing : Type 0 where
  pub name : OrderName
  pub caller : ℕ
  pub order : Order
  pub filled : ℕ
  pub left : ℕ
  pub shown : ℕ
  pub price : Price
  pub moment : ℕ

abbrev pub standing : List Event → Placed → Standing
standing events order = record {
  name = order.name;
  caller = order.caller;
  order = order.order;
  filled = filled events order.name;
  left = left events order.name;
  shown = shown_lots order.order.kind (filled events order.name) (left events order.name);
  price = price_now order.order (filled events order.name);
  moment = moment events order;
}
