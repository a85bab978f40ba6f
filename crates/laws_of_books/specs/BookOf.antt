-- The book of an hour as the market's definitions have it: the lines of its contracts, each order as
-- the book records it.
use Rattle.std.specs.Prelude.{ℕ, ◌+◌, List, [], ◌∷◌, flat_map, length, map, Option, Some, None}
use Rattle.order_kinds.specs.declared.contract.Contract.{Contract}
use Rattle.order_kinds.specs.declared.contract.Part.{Part}
use Rattle.order_kinds.specs.declared.contract.Part.TheVariants as part
use Rattle.order_kinds.specs.declared.order.Kind.{Kind}
use Rattle.order_kinds.specs.declared.order.Kind.TheVariants as kind
use Rattle.order_kinds.specs.declared.order.Order.{Order}
use Rattle.order_kinds.specs.declared.order.OrderName.{OrderName}
use Rattle.order_kinds.specs.declared.side.Side.{Side}
use Rattle.order_kinds.specs.declared.side.Side.TheVariants.{Buy, Sell}
use Rattle.contract_book.specs.declared.resting.Ice.{Ice}
use Rattle.contract_book.specs.declared.resting.Resting.{Resting}
use Rattle.market_model.specs.declared.event.Event.{Event}
use Rattle.market_model.specs.History.{of_hour}
use Rattle.market_model.specs.Lines.{line}
use Rattle.market_model.specs.Orders.{Standing, shown_lots}

-- what an order hides of which so much is filled: nothing, if it is no iceberg
abbrev pub ice_of : Order → (filled : ℕ) → Option Ice
ice_of order filled = by_kind order.kind
  where
    by_kind : Kind → Option Ice
    by_kind (kind.Iceberg peak delta) = Some (record { price = order.price; total = order.quantity.0; peak = peak.0; delta = delta; filled = filled })
    by_kind _ = None

-- an order that stands, as a book records it
abbrev pub resting_of : Standing → Resting
resting_of standing = record {
  number = standing.name.number;
  caller = standing.caller;
  zone = standing.order.zone;
  side = standing.order.side;
  price = standing.price;
  left = standing.left;
  shown = standing.shown;
  moment = standing.moment;
  ice = ice_of standing.order standing.filled;
}

-- the contract of a part of an hour
abbrev pub contract_of : (hour : ℕ) → Part → Contract
contract_of hour part = record { hour = hour; part = part }

-- the parts of an hour in the order of their numbers
abbrev pub numbered_parts : List Part
numbered_parts =
    part.Hour ∷ part.Quarter 1 ∷ part.Quarter 2 ∷ part.Quarter 3 ∷ part.Quarter 4 ∷ part.Half 1 ∷ part.Half 2 ∷ []

-- the line of a contract and side, record by record
abbrev pub resting_line : List Event → Contract → Side → List Resting
resting_line events contract side = map resting_of (line events contract side)

-- the lines of each part of an hour, in the order of their numbers, first the buys, then the sells
abbrev pub book_by : (Part → Side → List Resting) → List (List Resting)
book_by line_in = flat_map (λ part. line_in part Buy ∷ line_in part Sell ∷ []) numbered_parts

-- the book of an hour: the lines of its contracts
unfoldable pub book_of : List Event → (hour : ℕ) → List (List Resting)
book_of events hour = book_by (λ part side. resting_line events (contract_of hour part) side)

-- the moment of the next event of an hour: its place among the hour's events, counted from 1
abbrev pub next_moment : List Event → (hour : ℕ) → ℕ
next_moment events hour = length (of_hour hour events) + 1

-- the record of an order that enters with all its lots: nothing of it is filled
abbrev pub entered_resting : OrderName → (caller : ℕ) → Order → (moment : ℕ) → Resting
entered_resting name caller order moment = record {
  number = name.number;
  caller = caller;
  zone = order.zone;
  side = order.side;
  price = order.price;
  left = order.quantity.0;
  shown = shown_lots order.kind 0 order.quantity.0;
  moment = moment;
  ice = ice_of order 0;
}
