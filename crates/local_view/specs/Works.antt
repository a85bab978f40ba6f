-- What a refresh works with.
use Rattle.std.specs.Prelude.{◌≡◌, ℕ, ◌<◌, true, List, [], length, get_or, None, Option, Some, if◌then◌else◌}
use Rattle.order_kinds.specs.declared.side.Side.{Side}
use Rattle.cut_proof.specs.ZoneSet.{holds}
use Rattle.market_model.specs.declared.reply.ViewRow.{ViewRow}
use Rattle.market_model.specs.Board.{BoardState}
use Rattle.local_view.specs.Boards.{AreRoomsOf, view_of}
use Rattle.local_view.specs.Rows.{LineRows}
use Rattle.zone_graph.specs.Graph.{Graph, HasZone, border_count}
use Rattle.local_view.specs.declared.walk.Walk.{Walk}
use Rattle.local_view.specs.declared.work.Work.{Work}
use Rattle.local_view.specs.Whole.{IsRead}

-- lists work with rooms of so many borders
pub record IsWalk (borders : ℕ) (walk : Walk) : Type 0 where
  pub rooms : length walk.rooms ≡ borders
  pub places : length walk.route ≡ 64

-- the rooms are as many as is said
pub record IsSound (work : Work) : Type 0 where
  pub of_part : length work.of_part ≡ work.borders
  pub walk : IsWalk work.borders work.walk

-- they are those of a grid
pub record IsWork (graph : Graph) (work : Work) : Type 0 where
  pub borders : work.borders ≡ border_count graph
  pub sound : IsSound work

-- they are there
abbrev pub IsThere : Graph → Option Work → Type 0
IsThere graph None = ⊥
IsThere graph (Some work) = IsWork graph work

-- a line of a board
pub record BoardLine : Type 0 where
  pub board : BoardState
  pub part : ℕ
  pub side : Side

-- they are ready for the lists of a line of a board: the rooms are those of the part, and the line is read
pub record IsLineWork (board : BoardState) (part : ℕ) (side : Side) (work : Work) : Type 0 where
  pub hand : board.hand ≡ None
  pub sized : IsWork board.grid work
  pub rooms : AreRoomsOf board part work.of_part
  pub read : IsRead board part side work.whole

-- the rows of a zone, where they are computed or kept
abbrev pub row_made : (computed : ℕ) → BoardState → (part : ℕ) → Side → (kept : List (List ViewRow)) → (zone : ℕ) → List ViewRow
row_made computed board part side kept zone =
    if holds computed zone then view_of board part side zone else get_or kept zone []

-- the lists of the zones whose rows are computed are the views of the board
abbrev pub AreComputed : (computed : ℕ) → BoardState → (part : ℕ) → Side → (lists : List (List ViewRow)) → Type 0
AreComputed computed board part side lists =
    (zone : ℕ) → HasZone board.grid zone → holds computed zone ≡ true → get_or lists zone [] ≡ view_of board part side zone

-- lists of rows are computed or kept, zone by zone
abbrev pub AreMade : (computed : ℕ) → BoardState → (part : ℕ) → Side → (kept made : List (List ViewRow)) → Type 0
AreMade computed board part side kept made = (zone : ℕ) → zone < length made → get_or made zone [] ≡ row_made computed board part side kept zone

-- the next rows of a part and side are computed or kept, zone by zone
pub record HasMade (computed : ℕ) (board : BoardState) (part : ℕ) (side : Side) (kept : List (List ViewRow)) (line : LineRows) : Type 0 where
  pub rows : List (List ViewRow)
  pub is : line.next ≡ Some rows
  pub size : length rows ≡ length kept
  pub made : AreMade computed board part side kept rows
