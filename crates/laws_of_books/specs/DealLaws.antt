-- What a deal of two blocks makes of the books of the hours. The laws ask for a well-formed history:
-- its open blocks are whole, so blocks of one quantity have as much left.
use Rattle.std.specs.Prelude.{◌≡◌, ◌≢◌, ℕ, true, List, ◌++◌, Some}
use Rattle.order_kinds.specs.declared.order.BlockOrder.{BlockOrder}
use Rattle.order_kinds.specs.declared.order.OrderName.{OrderName}
use Rattle.order_kinds.specs.Side.{opposite}
use Rattle.block_book.specs.Book.{without}
use Rattle.market_model.specs.declared.event.Event.{Event}
use Rattle.market_model.specs.declared.event.Event.TheVariants as event
use Rattle.market_model.specs.declared.setup.Setup.{Setup}
use Rattle.market_model.specs.Blocks.{StandingBlock, block_legs, block_partner, carries_whole, standing_block}
use Rattle.market_model.specs.Grid.{graph_of}
use Rattle.market_model.specs.History.{and_then}
use Rattle.market_model.specs.Orders.{PlacedBlock}
use Rattle.market_model.specs.WellFormed.{Fits, IsHistory, IsMarketSetup, IsOpenBlock}
use Rattle.laws_of_books.specs.BlocksOf.{blocks_of}

-- two open blocks of one period and quantity and of opposite sides, of which the pour carries all
pub record IsDeal (setup : Setup) (events : List Event) (taker maker : PlacedBlock) : Type 0 where
  pub taker_open : IsOpenBlock events taker taker.name
  pub maker_open : IsOpenBlock events maker maker.name
  pub one_first : maker.order.first ≡ taker.order.first
  pub one_last : maker.order.last ≡ taker.order.last
  pub one_quantity : maker.order.quantity ≡ taker.order.quantity
  pub opposed : maker.order.side ≡ opposite taker.order.side
  pub whole : carries_whole (graph_of setup) events (standing_block events taker) (standing_block events maker) ≡ true

-- a history and the legs of two of its blocks
abbrev pub with_deal : Setup → List Event → (taker maker : PlacedBlock) → List Event
with_deal setup events taker maker =
    events ++ block_legs (graph_of setup) (standing_block events taker) (standing_block events maker) events

-- a block as it enters
abbrev pub placed_block : OrderName → (caller : ℕ) → BlockOrder → PlacedBlock
placed_block name caller order = record { name = name; caller = caller; order = order }

-- the legs of a deal take both blocks out of the book of the hour in which they start, and leave the
-- books of the other hours as they were
abbrev pub DealsTakeBothOut : Type 0
DealsTakeBothOut = (setup : Setup) (events : List Event) (taker maker : PlacedBlock) → IsMarketSetup setup → IsHistory setup events
    → IsDeal setup events taker maker
    → (blocks_of (with_deal setup events taker maker) taker.order.first
    ≡ without (without (blocks_of events taker.order.first) taker.name.number) maker.name.number)
    × ((hour : ℕ) → hour ≢ taker.order.first → blocks_of (with_deal setup events taker maker) hour ≡ blocks_of events hour)

-- an open block and the partner that the market finds for it make such a deal, whichever of the two is
-- the taker
abbrev pub PartnersMakeDeals : Type 0
PartnersMakeDeals = (setup : Setup) (events : List Event) (own : PlacedBlock) (found : StandingBlock) → IsMarketSetup setup → IsHistory setup events
    → IsOpenBlock events own own.name → block_partner (graph_of setup) events (standing_block events own) ≡ Some found
    → (partner : PlacedBlock) × (found ≡ standing_block events partner) × IsDeal setup events own partner × IsDeal setup events partner own

-- a block that trades as it enters takes its maker out of the book that it found, and is in none
abbrev pub EnteringDealsTakeTheMakerOut : Type 0
EnteringDealsTakeTheMakerOut = (setup : Setup) (events : List Event) (name : OrderName) (caller : ℕ) (order : BlockOrder) (maker : PlacedBlock)
    → IsMarketSetup setup → IsHistory setup events → Fits setup events (event.EnteredBlock name caller order)
    → let entered = and_then events (event.EnteredBlock name caller order) in
    IsDeal setup entered (placed_block name caller order) maker
    → (blocks_of (with_deal setup entered (placed_block name caller order) maker) order.first ≡ without (blocks_of events order.first) maker.name.number)
    × ((hour : ℕ) → hour ≢ order.first → blocks_of (with_deal setup entered (placed_block name caller order) maker) hour ≡ blocks_of events hour)
