-- What one leg of two blocks makes of the book of the hour in which they start. The laws ask no more of a
-- history than that each event fits those before it: amid the legs of a deal the two are not whole.
use Rattle.std.specs.Prelude.{◌≡◌, ℕ, false, List, []}
use Rattle.order_kinds.specs.declared.order.OrderName.{OrderName}
use Rattle.block_book.specs.declared.block.RestingBlock.{RestingBlock}
use Rattle.block_book.specs.Book.{without}
use Rattle.market_model.specs.declared.event.Event.{Event}
use Rattle.market_model.specs.declared.event.Event.TheVariants as event
use Rattle.market_model.specs.declared.event.Leg.{Leg}
use Rattle.market_model.specs.declared.setup.Setup.{Setup}
use Rattle.market_model.specs.History.{and_then}
use Rattle.market_model.specs.Orders.{is_open}
use Rattle.market_model.specs.WellFormed.{FitAfter, Fits}
use Rattle.laws_of_books.specs.BlocksOf.{blocks_of}

-- a book without the blocks of two numbers
abbrev pub without_both : List RestingBlock → (taker maker : ℕ) → List RestingBlock
without_both book taker maker = without (without book taker) maker

-- a leg leaves all blocks but its two as they were
abbrev pub LegsLeaveTheOtherBlocks : Type 0
LegsLeaveTheOtherBlocks = (setup : Setup) (events : List Event) (first last : ℕ) (leg : Leg) → FitAfter setup [] events
    → Fits setup events (event.BlockLeg first last leg)
    → without_both (blocks_of (and_then events (event.BlockLeg first last leg)) first) leg.taker.number leg.maker.number
    ≡ without_both (blocks_of events first) leg.taker.number leg.maker.number

-- a block of which nothing is left is in no book
abbrev pub ClosedBlocksAreGone : Type 0
ClosedBlocksAreGone = (setup : Setup) (events : List Event) (name : OrderName) → FitAfter setup [] events → is_open events name ≡ false
    → without (blocks_of events name.hour) name.number ≡ blocks_of events name.hour
