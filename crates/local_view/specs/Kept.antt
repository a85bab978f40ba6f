-- The kept views of an hour: for each part and side the rows of each zone, and those that are next,
-- where there are such.
use Rattle.std.specs.Prelude.{◌≡◌, ℕ, ◌+◌, ◌-◌, ◌^◌, ◌<◌, List, [], length, min, get_or, map, replicate, Option, Some, None}
use Rattle.order_kinds.specs.declared.side.Side.{Side}
use Rattle.order_kinds.specs.declared.side.Side.TheVariants.{Buy, Sell}
use Rattle.market_model.specs.declared.reply.ViewRow.{ViewRow}
use Rattle.market_model.specs.Board.{BoardState}
use Rattle.local_view.specs.Boards.{view_of}
use Rattle.local_view.specs.Rows.{LineRows}
use Rattle.local_view.specs.declared.part_views.PartViews.{PartViews}

-- the views of a side of a part
abbrev pub on_side : PartViews → Side → LineRows
on_side part Buy = part.buys
on_side part Sell = part.sells

-- what is kept: the zones that each part and side has rows for, the parts, and how many lists of rows
-- were computed
pub record Views : Type 0 where
  pub zones : ℕ
  pub lines : List PartViews
  pub made : ℕ

-- no rows at all
abbrev pub no_rows : LineRows
no_rows = record { kept = []; next = None }

abbrev pub no_part : PartViews
no_part = record { buys = no_rows; sells = no_rows }

-- the views of a part and side
abbrev pub line_of : Views → (part : ℕ) → Side → LineRows
line_of views part side = on_side (get_or views.lines part no_part) side

-- empty rows of each of so many zones
abbrev pub empty_rows : (zones : ℕ) → LineRows
empty_rows zones = record { kept = replicate zones []; next = None }

abbrev pub empty_part : (zones : ℕ) → PartViews
empty_part zones = record { buys = empty_rows zones; sells = empty_rows zones }

-- the rows that are kept of a zone
abbrev pub kept_of : Views → (part : ℕ) → Side → (zone : ℕ) → List ViewRow
kept_of views part side zone = get_or (line_of views part side).kept zone []

-- next rows become the kept ones
abbrev pub adopted_rows : (kept : List (List ViewRow)) → (next : Option (List (List ViewRow))) → List (List ViewRow)
adopted_rows kept None = kept
adopted_rows kept (Some next) = next

abbrev pub adopted : LineRows → LineRows
adopted line = record { kept = adopted_rows line.kept line.next; next = None }

abbrev pub part_adopted : PartViews → PartViews
part_adopted part = record { buys = adopted part.buys; sells = adopted part.sells }

-- next rows are dropped
abbrev pub forgotten : LineRows → LineRows
forgotten line = record { kept = line.kept; next = None }

abbrev pub part_forgotten : PartViews → PartViews
part_forgotten part = record { buys = forgotten part.buys; sells = forgotten part.sells }

-- the views of a side have so many zones
abbrev pub IsSized : (zones : ℕ) → PartViews → Type 0
IsSized zones part = (length part.buys.kept ≡ zones) × (length part.sells.kept ≡ zones)

-- more lists were made, or as many as can be counted
abbrev pub made_after : (made lists : ℕ) → ℕ
made_after made lists = min (made + lists) (2 ^ 64 - 1)

-- the next rows of a part and side are the views of the board, for each zone
pub record AreNext (board : BoardState) (part : ℕ) (side : Side) (zones : ℕ) (line : LineRows) : Type 0 where
  pub rows : List (List ViewRow)
  pub is : line.next ≡ Some rows
  pub size : length rows ≡ zones
  pub each : (zone : ℕ) → zone < zones → get_or rows zone [] ≡ view_of board part side zone

-- so have those of each part
abbrev pub AreSized : (zones : ℕ) → List PartViews → Type 0
AreSized zones parts = (part : ℕ) → part < length parts → IsSized zones (get_or parts part no_part)

-- all next rows become the kept ones, and all are dropped
abbrev pub views_adopted : Views → Views
views_adopted views = record { zones = views.zones; lines = map part_adopted views.lines; made = views.made }

abbrev pub views_forgotten : Views → Views
views_forgotten views = record { zones = views.zones; lines = map part_forgotten views.lines; made = views.made }

-- the next rows of all parts and sides are the views of the board
abbrev pub AreAllNext : BoardState → Views → Type 0
AreAllNext board views = (part : ℕ) (side : Side) → part < length views.lines → AreNext board part side views.zones (line_of views part side)
