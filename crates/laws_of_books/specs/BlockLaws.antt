-- What the book of the blocks of an hour is, and what each event makes of it. The laws ask no more of
-- a history than that each event fits those before it, as in every first part of a well-formed one.
use Rattle.std.specs.Prelude.{◌≡◌, ◌≢◌, ◌⊎◌, ℕ, ◌≤◌, List, [], length, map, None}
use Rattle.std.specs.Option.{option_map}
use Rattle.order_kinds.specs.declared.contract.Part.{Part}
use Rattle.order_kinds.specs.declared.order.BlockOrder.{BlockOrder}
use Rattle.order_kinds.specs.declared.order.OrderName.{OrderName}
use Rattle.order_kinds.specs.declared.side.Side.{Side}
use Rattle.zone_graph.specs.Route.{IsIn}
use Rattle.block_book.specs.Book.{IsBook, block_of, line_of, with_block, without}
use Rattle.market_model.specs.declared.event.Event.{Event}
use Rattle.market_model.specs.declared.event.Event.TheVariants as event
use Rattle.market_model.specs.declared.setup.Setup.{Setup}
use Rattle.market_model.specs.Blocks.{block_line}
use Rattle.market_model.specs.History.{and_then, journal_events, of_hour}
use Rattle.market_model.specs.Market.{Turn, run_by}
use Rattle.market_model.specs.Orders.{Placed, open_block, open_names, placed}
use Rattle.market_model.specs.Refusals.{desk_room}
use Rattle.market_model.specs.WellFormed.{FitAfter, Fits, IsMarketSetup}
use Rattle.laws_of_books.specs.BookOf.{next_moment}
use Rattle.laws_of_books.specs.BlocksOf.{blocks_of, entered_resting_block, record_of, resting_block}

-- the line of each period and side in the book of its first hour is the market's
abbrev pub BlockBooksAreTheirLines : Type 0
BlockBooksAreTheirLines = (setup : Setup) (events : List Event) (first last : ℕ) (side : Side) → FitAfter setup [] events
    → line_of (blocks_of events first) last side ≡ map (record_of events) (block_line events first last side)

-- before the first event no block rests
abbrev pub BlockBooksBeginEmpty : Type 0
BlockBooksBeginEmpty = (first : ℕ) → blocks_of [] first ≡ []

-- the block of a number is the open one of that name, as it stands
abbrev pub OpenBlocksAreFound : Type 0
OpenBlocksAreFound = (setup : Setup) (events : List Event) (name : OrderName) → FitAfter setup [] events
    → block_of (blocks_of events name.hour) name.number ≡ option_map (resting_block events) (open_block events name)

-- the events of an hour alone have its book
abbrev pub HoursHaveTheirBlockBooks : Type 0
HoursHaveTheirBlockBooks = (setup : Setup) (events : List Event) (first : ℕ) → FitAfter setup [] events
    → blocks_of (of_hour first events) first ≡ blocks_of events first

-- no more blocks rest than orders and blocks are open under names of the hour
abbrev pub NoMoreBlocksRestThanAreOpen : Type 0
NoMoreBlocksRestThanAreOpen = (setup : Setup) (events : List Event) (first : ℕ) → FitAfter setup [] events
    → length (blocks_of events first) ≤ length (open_names events first)

-- and where these are no more than a desk has room for, the book keeps what every book keeps
abbrev pub BlockBooksAreBooks : Type 0
BlockBooksAreBooks = (setup : Setup) (events : List Event) (first : ℕ) → FitAfter setup [] events → length (open_names events first) ≤ desk_room
    → IsBook (blocks_of events first)

-- so does the book of each hour after every run
abbrev pub RunsKeepBlockBooks : Type 0
RunsKeepBlockBooks = (setup : Setup) (parts : List Part) (turns : List Turn) (first : ℕ) → IsMarketSetup setup
    → IsBook (blocks_of (journal_events (run_by parts setup turns)) first)

-- a name is an order's
abbrev pub IsOfOrder : List Event → OrderName → Type 0
IsOfOrder events name = (order : Placed) × IsIn order (placed events) × (order.name ≡ name)

-- an event is nothing to the blocks that start in an hour: no block enters that starts there, no
-- blocks of a period that starts there trade, and what is withdrawn is named by another hour, or is an
-- order
abbrev pub IsElsewhere : (before : List Event) → (first : ℕ) → Event → Type 0
IsElsewhere before first (event.EnteredBlock name caller order) = order.first ≢ first
IsElsewhere before first (event.BlockLeg from last leg) = from ≢ first
IsElsewhere before first (event.Withdrawn name lots) = (name.hour ≢ first) ⊎ IsOfOrder before name
IsElsewhere before first _ = Unit {0}

-- such an event leaves the book as it was
abbrev pub OtherEventsLeaveTheBlocks : Type 0
OtherEventsLeaveTheBlocks = (setup : Setup) (events : List Event) (event : Event) (first : ℕ) → FitAfter setup [] events → Fits setup events event
    → IsElsewhere events first event → blocks_of (and_then events event) first ≡ blocks_of events first

-- the number of a block that enters is free in the book of its first hour
abbrev pub EnteringNumbersAreFree : Type 0
EnteringNumbersAreFree = (setup : Setup) (events : List Event) (name : OrderName) (caller : ℕ) (order : BlockOrder) → FitAfter setup [] events
    → Fits setup events (event.EnteredBlock name caller order) → block_of (blocks_of events order.first) name.number ≡ None

-- and the block comes to rest there, whole, with the moment of its entry
abbrev pub BlocksComeToRest : Type 0
BlocksComeToRest = (setup : Setup) (events : List Event) (name : OrderName) (caller : ℕ) (order : BlockOrder) → FitAfter setup [] events
    → Fits setup events (event.EnteredBlock name caller order)
    → blocks_of (and_then events (event.EnteredBlock name caller order)) order.first
    ≡ with_block (blocks_of events order.first) (entered_resting_block name caller order (next_moment events order.first))

-- what is withdrawn leaves the book of its hour: an order never stood in it
abbrev pub WithdrawnBlocksLeave : Type 0
WithdrawnBlocksLeave = (setup : Setup) (events : List Event) (name : OrderName) (lots : ℕ) → FitAfter setup [] events
    → Fits setup events (event.Withdrawn name lots)
    → blocks_of (and_then events (event.Withdrawn name lots)) name.hour ≡ without (blocks_of events name.hour) name.number
