-- What the book of an hour is, and what each event makes of it. The laws ask no more of a history
-- than that each event fits those before it, as in every first part of a well-formed one.
use Rattle.std.specs.Prelude.{◌≡◌, ◌≢◌, ◌⊎◌, ℕ, ◌*◌, ◌≤◌, true, List, [], length, map, replicate}
use Rattle.std.specs.Option.{option_map}
use Rattle.order_kinds.specs.declared.order.Order.{Order}
use Rattle.order_kinds.specs.declared.order.OrderName.{OrderName}
use Rattle.order_kinds.specs.declared.contract.Contract.{Contract}
use Rattle.order_kinds.specs.declared.contract.Part.{Part}
use Rattle.order_kinds.specs.declared.side.Side.{Side}
use Rattle.order_kinds.specs.Contract.{is_known, part_number}
use Rattle.zone_graph.specs.Route.{IsIn}
use Rattle.contract_book.specs.Book.{IsBook, filled, line_of, order_count, order_of, parts_of, reduced, with_order, without}
use Rattle.market_model.specs.declared.event.Event.{Event}
use Rattle.market_model.specs.declared.event.Event.TheVariants as event
use Rattle.market_model.specs.declared.event.Leg.{Leg}
use Rattle.market_model.specs.declared.setup.Setup.{Setup}
use Rattle.market_model.specs.History.{and_then, journal_events, of_hour}
use Rattle.market_model.specs.Lines.{line}
use Rattle.market_model.specs.Market.{Turn, run_by}
use Rattle.market_model.specs.Orders.{PlacedBlock, blocks_placed, open_names}
use Rattle.market_model.specs.Refusals.{desk_room}
use Rattle.market_model.specs.Taking.{standing_order}
use Rattle.market_model.specs.WellFormed.{FitAfter, Fits, IsMarketSetup}
use Rattle.laws_of_books.specs.BookOf.{book_of, contract_of, entered_resting, next_moment, resting_of}

-- the book of an hour has seven parts, and as the line of each part and side that of its contract
abbrev pub BooksAreTheirLines : Type 0
BooksAreTheirLines = (events : List Event) (hour : ℕ)
    → (parts_of (book_of events hour) ≡ 7)
    × ((part : Part) (side : Side) → is_known part ≡ true
    → line_of (book_of events hour) (part_number part) side ≡ map resting_of (line events (contract_of hour part) side))

-- a name is a block's
abbrev pub IsOfBlock : List Event → OrderName → Type 0
IsOfBlock events name = (block : PlacedBlock) × IsIn block (blocks_placed events) × (block.name ≡ name)

-- an event is nothing to the orders of an hour: none enters in a contract of the hour or trades in
-- one, and what is withdrawn or reduced is named by another hour, or is a block
abbrev pub IsElsewhere : (before : List Event) → (hour : ℕ) → Event → Type 0
IsElsewhere before hour (event.Entered name caller order) = order.contract.hour ≢ hour
IsElsewhere before hour (event.Leg contract leg) = contract.hour ≢ hour
IsElsewhere before hour (event.Withdrawn name lots) = (name.hour ≢ hour) ⊎ IsOfBlock before name
IsElsewhere before hour (event.Reduced name by) = (name.hour ≢ hour) ⊎ IsOfBlock before name
IsElsewhere before hour _ = Unit {0}

-- such an event leaves the book as it was
abbrev pub OtherEventsLeaveTheBook : Type 0
OtherEventsLeaveTheBook = (setup : Setup) (events : List Event) (event : Event) (hour : ℕ) → FitAfter setup [] events → Fits setup events event
    → IsElsewhere events hour event → book_of (and_then events event) hour ≡ book_of events hour

-- an order that enters comes to rest, whole, with the moment of its entry
abbrev pub EntriesComeToRest : Type 0
EntriesComeToRest = (setup : Setup) (events : List Event) (name : OrderName) (caller : ℕ) (order : Order) → FitAfter setup [] events
    → Fits setup events (event.Entered name caller order)
    → let hour = order.contract.hour in
    book_of (and_then events (event.Entered name caller order)) hour
    ≡ with_order (book_of events hour) (part_number order.contract.part) (entered_resting name caller order (next_moment events hour))

-- what is withdrawn leaves the book of its hour: a block never stood in it
abbrev pub WithdrawalsTakeOut : Type 0
WithdrawalsTakeOut = (setup : Setup) (events : List Event) (name : OrderName) (lots : ℕ) → FitAfter setup [] events
    → Fits setup events (event.Withdrawn name lots)
    → book_of (and_then events (event.Withdrawn name lots)) name.hour ≡ without (book_of events name.hour) name.number

-- an order that is reduced is reduced in the book of its hour
abbrev pub ReductionsLessen : Type 0
ReductionsLessen = (setup : Setup) (events : List Event) (name : OrderName) (by : ℕ) → FitAfter setup [] events
    → Fits setup events (event.Reduced name by)
    → book_of (and_then events (event.Reduced name by)) name.hour ≡ reduced (book_of events name.hour) name.number by

-- a leg fills its maker and then its taker in the book of its contract's hour, where a new peak has
-- the moment of the leg
abbrev pub LegsFillBoth : Type 0
LegsFillBoth = (setup : Setup) (events : List Event) (contract : Contract) (leg : Leg) → FitAfter setup [] events
    → Fits setup events (event.Leg contract leg)
    → let book = book_of events contract.hour in let moment = next_moment events contract.hour in
    book_of (and_then events (event.Leg contract leg)) contract.hour
    ≡ filled (filled book leg.maker.number leg.lots moment) leg.taker.number leg.lots moment

-- so a book without the taker needs the fill of the maker alone
abbrev pub LegsFillTheMaker : Type 0
LegsFillTheMaker = (setup : Setup) (events : List Event) (contract : Contract) (leg : Leg) → FitAfter setup [] events
    → Fits setup events (event.Leg contract leg)
    → let book = book_of events contract.hour in let moment = next_moment events contract.hour in
    without (book_of (and_then events (event.Leg contract leg)) contract.hour) leg.taker.number
    ≡ filled (without book leg.taker.number) leg.maker.number leg.lots moment

-- no more orders rest than orders and blocks are open under names of the hour
abbrev pub NoMoreRestThanAreOpen : Type 0
NoMoreRestThanAreOpen = (setup : Setup) (events : List Event) (hour : ℕ) → FitAfter setup [] events
    → order_count (book_of events hour) ≤ length (open_names events hour)

-- and where these are no more than a desk has room for, the book keeps what every book keeps
abbrev pub BooksAreBooks : Type 0
BooksAreBooks = (setup : Setup) (events : List Event) (hour : ℕ) → FitAfter setup [] events → length (open_names events hour) ≤ desk_room
    → IsBook (book_of events hour)

-- so does the book of each hour after every run
abbrev pub RunsKeepBooks : Type 0
RunsKeepBooks = (setup : Setup) (parts : List Part) (turns : List Turn) (hour : ℕ) → IsMarketSetup setup
    → IsBook (book_of (journal_events (run_by parts setup turns)) hour)

-- before the first event no order rests
abbrev pub BooksBeginEmpty : Type 0
BooksBeginEmpty = (hour : ℕ) → book_of [] hour ≡ replicate (2 * 7) []

-- the order of a number is the open one of that name, as it stands
abbrev pub OpenOrdersAreFound : Type 0
OpenOrdersAreFound = (setup : Setup) (events : List Event) (name : OrderName) → FitAfter setup [] events
    → order_of (book_of events name.hour) name.number ≡ option_map resting_of (standing_order events name)

-- the events of an hour alone have its book
abbrev pub HoursHaveTheirBooks : Type 0
HoursHaveTheirBooks = (setup : Setup) (events : List Event) (hour : ℕ) → FitAfter setup [] events
    → book_of (of_hour hour events) hour ≡ book_of events hour
