-- What an hour shows of its book is what the board's lines show.
use Rattle.std.proofs.Common.{◌≡◌, ◌∙◌, ℕ, zero, suc, ◌<◌, ◌==◌, ◌||◌, not, Bool, true, false, cond, List, [], ◌∷◌, filter, map, Option, Some, None, if◌then◌else◌, refl, sym, ap, arith}
use Rattle.std.specs.List.{list_any}
use Rattle.std.specs.Option.{option_map}
use Rattle.order_kinds.specs.declared.side.Side.{Side}
use Rattle.order_kinds.specs.Contract.{contract_at, is_known, part_at, part_number}
use Rattle.contract_book.specs.declared.resting.Resting.{Resting}
use Rattle.contract_book.specs.Book.{after_in, first_of, has_number, line_number, line_of, line_without}
use Rattle.market_model.specs.Board.{BoardState, first_shown, is_in_hand, resting_line, shown_behind}
use Rattle.market_model.specs.Board as boards
use Rattle.market_model.specs.Lines.{line}
use Rattle.market_model.specs.Orders.{Standing}
use Rattle.laws_of_books.specs.BookOf.{book_of, resting_of}
use Rattle.laws_of_books.proofs.PartLines.{line_of-book}
use Rattle.laws_of_hours.specs.OrderEvents.{without_hand}
use Rattle.laws_of_hours.proofs.Legs.{line-map}
use Rattle.kept_hour.specs.Showing.{shown_record}

-- the number of the part of a number is that number, and there is such a part
pub number-at : (part : ℕ) → part < 7 → part_number (part_at part) ≡ part
number-at zero low = refl
number-at (suc zero) low = refl
number-at (suc (suc zero)) low = refl
number-at (suc (suc (suc zero))) low = refl
number-at (suc (suc (suc (suc zero)))) low = refl
number-at (suc (suc (suc (suc (suc zero))))) low = refl
number-at (suc (suc (suc (suc (suc (suc zero)))))) low = refl
number-at (suc (suc (suc (suc (suc (suc (suc part))))))) low = absurd (let no : ⊥ = omega (arith, low) in no)

pub known-at : (part : ℕ) → part < 7 → is_known (part_at part) ≡ true
known-at zero low = refl
known-at (suc zero) low = refl
known-at (suc (suc zero)) low = refl
known-at (suc (suc (suc zero))) low = refl
known-at (suc (suc (suc (suc zero)))) low = refl
known-at (suc (suc (suc (suc (suc zero))))) low = refl
known-at (suc (suc (suc (suc (suc (suc zero)))))) low = refl
known-at (suc (suc (suc (suc (suc (suc (suc part))))))) low = absurd (let no : ⊥ = omega (arith, low) in no)

-- the records of those that are not in hand
less-hand : (held : ℕ) (orders : List Standing)
    → line_without held (map resting_of orders) ≡ map resting_of (filter (λ order. not (is_in_hand (Some held) order.name)) orders)
less-hand held [] = refl
less-hand held (order ∷ orders) = go (order.name.number == held) (less-hand held orders)
  where
    go : (b : Bool) → line_without held (map resting_of orders) ≡ map resting_of (filter (λ order. not (is_in_hand (Some held) order.name)) orders)
        → cond (not b) (resting_of order ∷ line_without held (map resting_of orders)) (line_without held (map resting_of orders))
        ≡ map resting_of (cond (not b) (order ∷ filter (λ order. not (is_in_hand (Some held) order.name)) orders) (filter (λ order. not (is_in_hand (Some held) order.name)) orders))
    go true rest = rest
    go false rest = ap (λ xs. resting_of order ∷ xs) rest

all-rest : (orders : List Standing) → filter (λ order. not (is_in_hand None order.name)) orders ≡ orders
all-rest [] = refl
all-rest (order ∷ orders) = ap (λ xs. order ∷ xs) (all-rest orders)

-- the line of a part and side of the book without the order in hand is the board's resting line
pub line-is : (board : BoardState) (book : List (List Resting)) → book ≡ without_hand board.hand (book_of board.events board.hour) → (part : ℕ) (side : Side) → part < 7
    → line_of book part side ≡ map resting_of (resting_line board part side)
line-is board book is part side low = ap (λ b. line_of b part side) is ∙ go board.hand
  where
    whole : line_of (book_of board.events board.hour) part side ≡ map resting_of (line board.events (contract_at board.hour part) side)
    whole =
        ap (λ n. line_of (book_of board.events board.hour) n side) (sym (number-at part low))
        ∙ line_of-book board.events board.hour (part_at part) side (known-at part low)

    go : (hand : Option ℕ) → line_of (without_hand hand (book_of board.events board.hour)) part side
        ≡ map resting_of (filter (λ order. not (is_in_hand hand order.name)) (line board.events (contract_at board.hour part) side))
    go None = whole ∙ ap (map resting_of) (sym (all-rest (line board.events (contract_at board.hour part) side)))
    go (Some held) =
        line-map (line_without held) refl (book_of board.events board.hour) (line_number part side)
        ∙ ap (line_without held) whole ∙ less-hand held (line board.events (contract_at board.hour part) side)

-- what shows of the first record, and of the one behind a number
pub first-shows : (orders : List Standing) → option_map shown_record (first_of (map resting_of orders)) ≡ first_shown orders
first-shows [] = refl
first-shows (order ∷ orders) = refl

pub behind-shows : (number : ℕ) (orders : List Standing) → option_map shown_record (after_in number (map resting_of orders)) ≡ shown_behind number orders
behind-shows number [] = refl
behind-shows number (order ∷ orders) = go (order.name.number == number) (behind-shows number orders)
  where
    go : (b : Bool) → option_map shown_record (after_in number (map resting_of orders)) ≡ shown_behind number orders
        → option_map shown_record (if b then first_of (map resting_of orders) else after_in number (map resting_of orders))
        ≡ (if b then first_shown orders else shown_behind number orders)
    go true rest = first-shows orders
    go false rest = rest

-- a number stands in the one where it stands in the other
pub any-shows : (number : ℕ) (orders : List Standing) → list_any (has_number number) (map resting_of orders) ≡ list_any (boards.has_number number) orders
any-shows number [] = refl
any-shows number (order ∷ orders) = ap (λ b. (order.name.number == number) || b) (any-shows number orders)
