-- A fill changes a line of a book from the place of the filled order on, and nothing in front of it.
use Rattle.std.specs.Prelude.{◌≡◌, ℕ, ◌≤◌, ◌==◌, List, ◌∷◌, ◌++◌, Some, if◌then◌else◌}
use Rattle.order_kinds.specs.declared.side.Side.{Side}
use Rattle.zone_graph.specs.InOrder.{put_in_order}
use Rattle.zone_graph.specs.Route.{IsIn}
use Rattle.contract_book.specs.declared.resting.Resting.{Resting}
use Rattle.contract_book.specs.Book.{IsBook, filled, line_of, order_of}
use Rattle.contract_book.specs.Resting.{order_after, resting_cmp}

-- what a fill leaves of a line from the place of an order on: those behind it, and among them the order
-- with what is left of it
abbrev pub behind_fill : Side → Resting → (back : List Resting) → (lots moment : ℕ) → List Resting
behind_fill side order back lots moment =
    if order.left == lots then back else put_in_order (resting_cmp side) back (order_after order lots moment)

-- a fill of what an order shows, at a moment no earlier than its own, leaves the front of its line
abbrev pub FillsStayBehind : Type 0
FillsStayBehind = (book : List (List Resting)) (part : ℕ) (side : Side) (front back : List Resting) (order : Resting) (lots moment : ℕ) → IsBook book
    → line_of book part side ≡ front ++ (order ∷ back) → order_of book order.number ≡ Some order → order.moment ≤ moment
    → line_of (filled book order.number lots moment) part side ≡ front ++ behind_fill side order back lots moment

-- and every other line as it was
abbrev pub FillsStayInTheirLine : Type 0
FillsStayInTheirLine = (book : List (List Resting)) (part : ℕ) (side : Side) (order : Resting) (lots moment : ℕ) (other : ℕ) (opposite : Side) → IsBook book
    → IsIn order (line_of book part side) → order_of book order.number ≡ Some order → ((other ≡ part) × (opposite ≡ side) → ⊥)
    → line_of (filled book order.number lots moment) other opposite ≡ line_of book other opposite
