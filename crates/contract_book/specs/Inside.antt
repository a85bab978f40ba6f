-- How a book lays out its orders. No public clause cites this module.
use Rattle.std.specs.Prelude.{◌≡◌, ℕ, ◌*◌, ◌/◌, ◌%◌, ◌==◌, List, map, length, Option, Some, if◌then◌else◌}
use Rattle.std.specs.declared.cmp.Ordering.{Ordering}
use Rattle.order_kinds.specs.declared.side.Side.{Side}
use Rattle.order_kinds.specs.declared.side.Side.TheVariants.{Buy, Sell}
use Rattle.record_pool.specs.Keyed.{held_at, AreKeyed}
use Rattle.record_pool.specs.Lines.{AreLines}
use Rattle.record_pool.specs.Ranked.{records_of}
use Rattle.contract_book.specs.declared.held.Held.{Held}
use Rattle.contract_book.specs.declared.resting.Resting.{Resting}
use Rattle.contract_book.specs.Resting.{IsSound, resting_cmp}

-- the side of a line: lines of even numbers have buys
abbrev pub side_of : (line : ℕ) → Side
side_of line = if line % 2 == 0 then Buy else Sell

-- the number by which an order is found
abbrev pub number_of : Held → ℕ
number_of held = held.order.number

-- priority on a side
abbrev pub held_cmp : Side → (one other : Held) → Ordering
held_cmp side one other = resting_cmp side one.order other.order

-- an order stands in the line that its record names, and is of that line's side
abbrev pub BelongsTo : (line : ℕ) → Held → Type 0
BelongsTo line held = (held.line ≡ line) × (held.order.side ≡ side_of line)

-- the orders of a line of places
abbrev pub orders_in : List (Option Held) → List ℕ → List Resting
orders_in places line = map (λ (held : Held). held.order) (records_of places line)

-- the book that places and lines make
abbrev pub book_in : List (Option Held) → List (List ℕ) → List (List Resting)
book_in places lines = map (orders_in places) lines

-- the orders are found by their numbers and stand in the lines, and each agrees with itself
pub record IsInside (places : List (Option Held)) (lines : List (List ℕ)) : Type 0 where
  pub keyed : AreKeyed number_of places
  pub are : AreLines held_cmp side_of BelongsTo places lines
  pub whole : length lines ≡ 2 * (length lines / 2)
  pub sound : (place : ℕ) (held : Held) → held_at places place ≡ Some held → IsSound held.order
