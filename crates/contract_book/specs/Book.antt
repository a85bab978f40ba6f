-- The book of an hour, as its callers see it: for each contract and side the orders that rest, in
-- priority. The lines are in one list: of each part first its buys, then its sells.
use Rattle.std.specs.Prelude.{◌≡◌, ℕ, ◌+◌, ◌*◌, ◌/◌, ◌≤◌, ◌==◌, Bool, not, List, [], ◌∷◌, map, filter, flat_map, length, sum_by, slice_index_or, slice_set, Option, Some, None, if◌then◌else◌}
use Rattle.std.specs.List.{find, list_any}
use Rattle.order_kinds.specs.declared.side.Side.{Side}
use Rattle.order_kinds.specs.declared.side.Side.TheVariants.{Buy, Sell}
use Rattle.zone_graph.specs.InOrder.{IsStrictlyInOrder, put_in_order}
use Rattle.zone_graph.specs.Route.{IsIn}
use Rattle.contract_book.specs.declared.resting.Resting.{Resting}
use Rattle.contract_book.specs.Resting.{IsSound, order_after, order_less, resting_cmp}

-- the number of the line of a part and side
abbrev pub line_number : (part : ℕ) → Side → ℕ
line_number part Buy = 2 * part
line_number part Sell = 2 * part + 1

-- how many parts a book has
abbrev pub parts_of : List (List Resting) → ℕ
parts_of book = length book / 2

-- the line of a part and side, in priority
abbrev pub line_of : List (List Resting) → (part : ℕ) → Side → List Resting
line_of book part side = slice_index_or book (line_number part side) []

-- the book with this line of a part and side
abbrev pub with_line : List (List Resting) → (part : ℕ) → Side → List Resting → List (List Resting)
with_line book part side line = slice_set book (line_number part side) line

-- how many orders rest
abbrev pub order_count : List (List Resting) → ℕ
order_count book = sum_by length book

-- the order has this number
abbrev pub has_number : (number : ℕ) → Resting → Bool
has_number number order = order.number == number

-- the order of this number, if it rests
abbrev pub order_of : List (List Resting) → (number : ℕ) → Option Resting
order_of book number = find (has_number number) (flat_map (λ line. line) book)

-- the line, and the book, without the order of this number
abbrev pub line_without : (number : ℕ) → List Resting → List Resting
line_without number line = filter (λ order. not (has_number number order)) line

abbrev pub without : List (List Resting) → (number : ℕ) → List (List Resting)
without book number = map (line_without number) book

-- the order that comes to rest, put in priority into the line of its part and side
abbrev pub with_order : List (List Resting) → (part : ℕ) → Resting → List (List Resting)
with_order book part order = with_line book part order.side (put_in_order (resting_cmp order.side) (line_of book part order.side) order)

-- the line with another record of an order that it has, put in priority in the stead of the old one
abbrev pub changed_line : Resting → List Resting → List Resting
changed_line order line =
    if list_any (has_number order.number) line then put_in_order (resting_cmp order.side) (line_without order.number line) order else line

-- the book with another record of an order
abbrev pub changed : List (List Resting) → Resting → List (List Resting)
changed book order = map (changed_line order) book

-- the book after a fill of an order: it leaves where nothing is left of it, and else has its new
-- place, where a new peak has the given moment
abbrev pub filled : List (List Resting) → (number lots moment : ℕ) → List (List Resting)
filled book number lots moment = by_order (order_of book number)
  where
    by_order : Option Resting → List (List Resting)
    by_order None = book
    by_order (Some order) = if order.left == lots then without book number else changed book (order_after order lots moment)

-- the book after a reduction of an order
abbrev pub reduced : List (List Resting) → (number by : ℕ) → List (List Resting)
reduced book number by = by_order (order_of book number)
  where
    by_order : Option Resting → List (List Resting)
    by_order None = book
    by_order (Some order) = changed book (order_less order by)

-- the first order of a line
abbrev pub first_of : List Resting → Option Resting
first_of [] = None
first_of (order ∷ line) = Some order

-- the order behind that of this number in a line
abbrev pub after_in : (number : ℕ) → List Resting → Option Resting
after_in number [] = None
after_in number (order ∷ line) = if has_number number order then first_of line else after_in number line

-- what every book keeps: each line is strictly in priority, has orders of its side, each of which
-- agrees with itself, no number stands twice, and no more than 4096 orders rest
pub record IsBook (book : List (List Resting)) : Type 0 where
  pub whole : length book ≡ 2 * parts_of book
  pub few : order_count book ≤ 4096
  pub sorted : (part : ℕ) (side : Side) → IsStrictlyInOrder (resting_cmp side) (line_of book part side)
  pub sided : (part : ℕ) (side : Side) (order : Resting) → IsIn order (line_of book part side) → order.side ≡ side
  pub sound : (part : ℕ) (side : Side) (order : Resting) → IsIn order (line_of book part side) → IsSound order
  pub once : (part other : ℕ) (side opposite : Side) (order same : Resting) → IsIn order (line_of book part side) → IsIn same (line_of book other opposite)
      → order.number ≡ same.number → (part ≡ other) × (side ≡ opposite) × (order ≡ same)
