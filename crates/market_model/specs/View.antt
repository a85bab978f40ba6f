-- The view of a contract, a side and a zone: what a taker of any quantity at any price in that zone
-- would take of the resting orders of that side, of what they show. Local views are in the public
-- description; their rows are this market's own.
use Rattle.std.specs.Prelude.{ℕ, ◌-◌, List, [], ◌∷◌, ◌++◌, map, filter, fold, sum_by, pos, neg_ℤ, nat_lt, Option, Some, None, if◌then◌else◌}
use Rattle.std.specs.List.{filter_map, list_any}
use Rattle.order_kinds.specs.declared.contract.Contract.{Contract}
use Rattle.order_kinds.specs.declared.order.Kind.TheVariants as kind
use Rattle.order_kinds.specs.declared.order.Order.{Order}
use Rattle.order_kinds.specs.declared.price.Price.{Price}
use Rattle.order_kinds.specs.declared.side.Side.{Side}
use Rattle.order_kinds.specs.declared.side.Side.TheVariants.{Buy, Sell}
use Rattle.order_kinds.specs.Same.{same_name}
use Rattle.order_kinds.specs.Side.{opposite}
use Rattle.zone_graph.specs.Graph.{Graph}
use Rattle.zone_graph.specs.Pour.{lots_if}
use Rattle.market_model.specs.declared.event.Event.{Event}
use Rattle.market_model.specs.declared.event.Event.TheVariants as event
use Rattle.market_model.specs.declared.event.Leg.{Leg}
use Rattle.market_model.specs.declared.reply.ViewRow.{ViewRow}
use Rattle.market_model.specs.Entering.{legs_taken}
use Rattle.market_model.specs.Lines.{line}
use Rattle.market_model.specs.Orders.{Standing}

-- the withdrawal of what an order hides
abbrev pub hidden_withdrawn : Standing → Event
hidden_withdrawn order = event.Withdrawn order.name (order.left - order.shown)

-- the history without what the icebergs of a contract and side hide
abbrev pub without_hidden : List Event → Contract → Side → List Event
without_hidden events contract side =
    events ++ map hidden_withdrawn (filter (λ order. nat_lt order.shown order.left) (line events contract side))

-- the price that crosses every other: the greatest for a buy, the least for a sell
abbrev pub any_price : Side → Price
any_price Buy = record { 0 = pos 999900 }
any_price Sell = record { 0 = neg_ℤ (pos 999900) }

-- an order of a zone that would take all that it can from the resting orders of a side
abbrev pub unlimited_taker : Contract → Side → (zone : ℕ) → Order
unlimited_taker contract side zone = record {
  contract = contract;
  zone = zone;
  side = opposite side;
  price = any_price (opposite side);
  quantity = record { 0 = 4294967295 };
  kind = kind.Limit;
}

-- the trade of a leg
abbrev pub trade_of : Event → Option Leg
trade_of (event.Leg contract leg) = Some leg
trade_of _ = None

-- the first trade with each maker
abbrev pub first_trades : List Leg → List Leg
first_trades legs =
    fold (λ kept leg. if list_any (λ other. same_name other.maker leg.maker) kept then kept else (kept ++ leg ∷ [])) [] legs

-- the row of a maker: its price, and the sum of the lots of its trades
abbrev pub row_of : List Leg → Leg → ViewRow
row_of legs first = record {
  price = first.price;
  lots = sum_by (λ leg. lots_if (same_name leg.maker first.maker) leg.lots) legs;
}

-- one row for each maker, in the order of its first trade
abbrev pub rows_of : List Leg → List ViewRow
rows_of legs = map (row_of legs) (first_trades legs)

-- the rows of a view
unfoldable pub view : Graph → List Event → Contract → Side → (zone : ℕ) → List ViewRow
view graph events contract side zone =
    let shown = without_hidden events contract side in
    rows_of (filter_map trade_of (legs_taken graph shown 0 (unlimited_taker contract side zone)))
