-- How many orders and blocks of an hour rest: each of them stands in one of its two books.
use Rattle.std.specs.Prelude.{◌≡◌, ℕ, ◌+◌, List, length, Option, Some}
use Rattle.zone_graph.specs.Graph.{Graph}
use Rattle.contract_book.specs.Book.{order_count}
use Rattle.market_model.specs.declared.event.Event.{Event}
use Rattle.market_model.specs.Board.{IsHourOf}
use Rattle.laws_of_books.specs.BookOf.{book_of}
use Rattle.laws_of_books.specs.BlockLaws.{IsOfOrder}
use Rattle.laws_of_books.specs.BlocksOf.{blocks_of}
use Rattle.laws_of_hours.specs.OrderEvents.{resting_count, without_hand}

-- what is open and not in hand is an order of the book or a block of the book of blocks; what is in hand
-- is an order
abbrev pub AllThatRestIsInTheBooks : Type 0
AllThatRestIsInTheBooks = (graph : Graph) (hour : ℕ) (events : List Event) (hand : Option ℕ) → IsHourOf graph hour events
    → ((number : ℕ) → hand ≡ Some number → IsOfOrder events (record { hour = hour; number = number }))
    → resting_count events hour hand ≡ order_count (without_hand hand (book_of events hour)) + length (blocks_of events hour)
