-- What the events of orders make of the books and flows of their hour, said of the hour's own events.
use Rattle.std.specs.Prelude.{◌≡◌, ◌≢◌, ℕ, ◌+◌, ◌<◌, ◌≤◌, ◌==◌, Bool, true, false, not, List, filter, length, Option, Some, None, if◌then◌else◌}
use Rattle.order_kinds.specs.declared.contract.Contract.{Contract}
use Rattle.order_kinds.specs.declared.order.Order.{Order}
use Rattle.order_kinds.specs.declared.order.OrderName.{OrderName}
use Rattle.order_kinds.specs.Contract.{is_known, part_number}
use Rattle.zone_graph.specs.Graph.{Graph}
use Rattle.zone_graph.specs.Pour.{uses}
use Rattle.zone_graph.specs.Route.{IsIn}
use Rattle.contract_book.specs.declared.resting.Resting.{Resting}
use Rattle.contract_book.specs.Book.{filled, line_of, order_of, reduced, without}
use Rattle.block_book.specs.Book as block_books
use Rattle.flow_netting.specs.declared.quarter_set.QuarterSet.{QuarterSet}
use Rattle.flow_netting.specs.Flows.{Flows}
use Rattle.flow_netting.specs.QuarterSet.{has}
use Rattle.market_model.specs.declared.event.Event.{Event}
use Rattle.market_model.specs.declared.event.Event.TheVariants as event
use Rattle.market_model.specs.declared.event.Leg.{Leg}
use Rattle.market_model.specs.Board.{IsHourOf, is_in_hand}
use Rattle.market_model.specs.History.{and_then}
use Rattle.market_model.specs.Orders.{is_open, next_name, open_names}
use Rattle.laws_of_books.specs.BookOf.{book_of}
use Rattle.laws_of_books.specs.BlockLaws.{IsOfOrder}
use Rattle.laws_of_books.specs.BlocksOf.{blocks_of}
use Rattle.laws_of_hours.specs.CallLaws.{CanCarry}
use Rattle.laws_of_hours.specs.Standing.{IsCarried, IsSetOf, Stands}

-- ---- an order in hand

-- the order of a number is the one in hand
abbrev pub holds : (hand : Option ℕ) → (number : ℕ) → Bool
holds None number = false
holds (Some held) number = held == number

-- the book of an hour in which the order in hand does not rest
abbrev pub without_hand : (hand : Option ℕ) → List (List Resting) → List (List Resting)
without_hand None book = book
without_hand (Some number) book = without book number

-- a fill of an order of such a book: the order in hand is not in it
abbrev pub filled_beside : (hand : Option ℕ) → (number lots moment : ℕ) → List (List Resting) → List (List Resting)
filled_beside hand number lots moment book = if holds hand number then book else filled book number lots moment

-- how many orders and blocks of an hour are open and not in hand
abbrev pub resting_count : List Event → (hour : ℕ) → (hand : Option ℕ) → ℕ
resting_count events hour hand = length (filter (λ name. not (is_in_hand hand name)) (open_names events hour))

-- ---- entries

-- an order has entered an hour, and is in hand: without it the book is as before
pub record IsInHand (graph : Graph) (hour : ℕ) (events after : List Event) (name : OrderName) : Type 0 where
  pub named : name ≡ next_name events hour
  pub book : without_hand (Some name.number) (book_of after hour) ≡ book_of events hour
  pub blocks : blocks_of after hour ≡ blocks_of events hour
  pub flows : (flows : Flows) → Stands graph events hour flows → Stands graph after hour flows
  pub few : resting_count after hour (Some name.number) ≤ length (open_names events hour)

abbrev pub OrdersEnterInHand : Type 0
OrdersEnterInHand = (graph : Graph) (hour : ℕ) (events : List Event) (name : OrderName) (caller : ℕ) (order : Order)
    → IsHourOf graph hour (and_then events (event.Entered name caller order)) → IsInHand graph hour events (and_then events (event.Entered name caller order)) name

-- ---- legs

-- an order of a number rests in a part of a book, and shows so many lots
pub record CanFill (book : List (List Resting)) (part number lots : ℕ) : Type 0 where
  pub order : Resting
  pub found : order_of book number ≡ Some order
  pub in_line : IsIn order (line_of book part order.side)
  pub some : 1 ≤ lots
  pub shows : lots ≤ order.shown

-- a leg was made in an hour: it fills its maker and its taker where they rest, and its lots are carried
-- over its route
pub record IsMade (graph : Graph) (hour : ℕ) (events after : List Event) (contract : Contract) (leg : Leg) : Type 0 where
  pub in_hour : contract.hour ≡ hour
  pub in_part : is_known contract.part ≡ true
  pub apart : leg.maker.number ≢ leg.taker.number
  pub maker : (hand : Option ℕ) → holds hand leg.maker.number ≡ false
      → CanFill (without_hand hand (book_of events hour)) (part_number contract.part) leg.maker.number leg.lots
  pub taker : (hand : Option ℕ) → holds hand leg.taker.number ≡ false
      → CanFill (filled_beside hand leg.maker.number leg.lots (length events + 1) (without_hand hand (book_of events hour))) (part_number contract.part) leg.taker.number leg.lots
  pub book : (hand : Option ℕ) → without_hand hand (book_of after hour)
      ≡ filled_beside hand leg.taker.number leg.lots (length events + 1) (filled_beside hand leg.maker.number leg.lots (length events + 1) (without_hand hand (book_of events hour)))
  pub blocks : blocks_of after hour ≡ blocks_of events hour
  pub can_carry : (set : QuarterSet) (flows : Flows) → Stands graph events hour flows → IsSetOf set contract.part → CanCarry flows leg.route set leg.lots
  pub flows : (set : QuarterSet) (old new : Flows) → Stands graph events hour old → IsSetOf set contract.part → IsCarried (uses leg.route) (has set) leg.lots old new
      → Stands graph after hour new
  pub same_next : next_name after hour ≡ next_name events hour

abbrev pub LegsAreMade : Type 0
LegsAreMade = (graph : Graph) (hour : ℕ) (events : List Event) (contract : Contract) (leg : Leg) → IsHourOf graph hour (and_then events (event.Leg contract leg))
    → IsMade graph hour events (and_then events (event.Leg contract leg)) contract leg

-- ---- what is left of an order or a block is taken out

-- an order of which nothing is left does not rest: the book without it is the whole one, and as many rest
-- with it in hand as without
pub record IsGone (hour : ℕ) (events : List Event) (number : ℕ) : Type 0 where
  pub book : without_hand (Some number) (book_of events hour) ≡ book_of events hour
  pub few : resting_count events hour None ≤ resting_count events hour (Some number)

abbrev pub ClosedOrdersAreGone : Type 0
ClosedOrdersAreGone = (graph : Graph) (hour : ℕ) (events : List Event) (number : ℕ) → IsHourOf graph hour events
    → is_open events (record { hour = hour; number = number }) ≡ false → IsGone hour events number

-- an order or a block was withdrawn: it has left the book of the orders and that of the blocks, and an
-- order in none of these but in hand is in hand no more
pub record IsWithdrawn (graph : Graph) (hour : ℕ) (events after : List Event) (number : ℕ) : Type 0 where
  pub book : book_of after hour ≡ without (book_of events hour) number
  pub blocks : blocks_of after hour ≡ block_books.without (blocks_of events hour) number
  pub other_blocks : IsOfOrder events (record { hour = hour; number = number }) → blocks_of after hour ≡ blocks_of events hour
  pub flows : (flows : Flows) → Stands graph events hour flows → Stands graph after hour flows
  pub few : resting_count after hour None ≤ resting_count events hour None
  pub few_beside : resting_count after hour None ≤ resting_count events hour (Some number)
  pub same_next : next_name after hour ≡ next_name events hour

abbrev pub WithdrawalsAreMade : Type 0
WithdrawalsAreMade = (graph : Graph) (hour : ℕ) (events : List Event) (name : OrderName) (lots : ℕ)
    → IsHourOf graph hour (and_then events (event.Withdrawn name lots)) → IsWithdrawn graph hour events (and_then events (event.Withdrawn name lots)) name.number

-- ---- an order is reduced

-- an order that hides nothing rests in a book, with more than so many lots
pub record CanReduce (book : List (List Resting)) (number by : ℕ) : Type 0 where
  pub order : Resting
  pub found : order_of book number ≡ Some order
  pub plain : order.ice ≡ None
  pub some : 1 ≤ by
  pub less : by < order.left

pub record IsReduced (graph : Graph) (hour : ℕ) (events after : List Event) (number by : ℕ) : Type 0 where
  pub can : CanReduce (book_of events hour) number by
  pub book : book_of after hour ≡ reduced (book_of events hour) number by
  pub blocks : blocks_of after hour ≡ blocks_of events hour
  pub flows : (flows : Flows) → Stands graph events hour flows → Stands graph after hour flows
  pub few : resting_count after hour None ≤ resting_count events hour None
  pub same_next : next_name after hour ≡ next_name events hour

abbrev pub ReductionsAreMade : Type 0
ReductionsAreMade = (graph : Graph) (hour : ℕ) (events : List Event) (name : OrderName) (by : ℕ)
    → IsHourOf graph hour (and_then events (event.Reduced name by)) → IsReduced graph hour events (and_then events (event.Reduced name by)) name.number by
