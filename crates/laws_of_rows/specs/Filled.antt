-- The rows that trades make, trade by trade.
use Rattle.std.specs.Prelude.{◌≡◌, ℕ, ◌+◌, ◌<◌, ◌^◌, Bool, List, [], ◌∷◌, ◌++◌, fold, map, if◌then◌else◌}
use Rattle.std.specs.List.{list_any}
use Rattle.order_kinds.specs.declared.order.OrderName.{OrderName}
use Rattle.order_kinds.specs.declared.side.Side.{Side}
use Rattle.order_kinds.specs.Same.{same_name}
use Rattle.zone_graph.specs.Graph.{Graph}
use Rattle.zone_graph.specs.Route.{IsIn}
use Rattle.zone_graph.specs.Steps.{IsRun}
use Rattle.market_model.specs.declared.reply.ViewRow.{ViewRow}
use Rattle.laws_of_rows.specs.declared.trades.Fill.{Fill}
use Rattle.laws_of_rows.specs.declared.trades.MakerRow.{MakerRow}
use Rattle.laws_of_rows.specs.Depth.{Depth, after_fill, next_fill}

abbrev pub is_row_of : OrderName → MakerRow → Bool
is_row_of maker row = same_name row.maker maker

abbrev pub row_in : MakerRow → ViewRow
row_in row = row.row

-- a row with more lots, if it is that of a maker
abbrev pub with_lots : OrderName → (lots : ℕ) → MakerRow → MakerRow
with_lots maker lots row =
    if same_name row.maker maker
    then record { maker = row.maker; row = record { price = row.row.price; lots = row.row.lots + lots } } else row

-- lots can be added to each of some rows
pub record CanAdd (lots : ℕ) (rows : List MakerRow) : Type 0 where
  pub each : (row : MakerRow) → IsIn row rows → row.row.lots + lots < 2 ^ 32

-- the row of a maker with one trade
abbrev pub row_with : Fill → MakerRow
row_with fill = record { maker = fill.maker; row = record { price = fill.price; lots = fill.lots } }

-- the rows with one more trade
abbrev pub with_fill : List MakerRow → Fill → List MakerRow
with_fill rows fill =
    if list_any (is_row_of fill.maker) rows then map (with_lots fill.maker fill.lots) rows else (rows ++ row_with fill ∷ [])

-- the rows of trades
abbrev pub rows_with : List Fill → List MakerRow
rows_with fills = fold with_fill [] fills

-- these are the rows of the trades of a taker, from the first to the last that it makes
pub record AreRowsFilled (graph : Graph) (side : Side) (zone : ℕ) (start : Depth) (rows : List MakerRow) : Type 0 where
  pub fills : List Fill
  pub run : IsRun (next_fill graph side zone) after_fill start fills
  pub are : rows ≡ rows_with fills
