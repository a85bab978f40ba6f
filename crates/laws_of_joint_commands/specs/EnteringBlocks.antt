-- A block that enters: its deal is found in the block book of its first hour and the rooms of its period, and
-- each hour of the period has the deal and then its own sweep.
use Rattle.std.specs.Prelude.{◌≡◌, ℕ, ◌==◌, false, List, [], ◌∷◌, ◌++◌, flat_map, Option, Some, None, if◌then◌else◌}
use Rattle.order_kinds.specs.declared.contract.Part.{Part}
use Rattle.order_kinds.specs.declared.order.BlockOrder.{BlockOrder}
use Rattle.order_kinds.specs.Period.{hours_from, is_within}
use Rattle.zone_graph.specs.Graph.{Graph}
use Rattle.block_match.specs.declared.deal.BlockDeal.{BlockDeal}
use Rattle.market_model.specs.declared.command.Command.TheVariants as command
use Rattle.market_model.specs.declared.event.Event.{Event}
use Rattle.market_model.specs.declared.event.Event.TheVariants as event
use Rattle.market_model.specs.declared.refusal.Refusal.{Refusal}
use Rattle.market_model.specs.declared.refusal.Refusal.TheVariants as refusal
use Rattle.market_model.specs.declared.reply.Reply.TheVariants as reply
use Rattle.market_model.specs.declared.setup.Setup.{Setup}
use Rattle.market_model.specs.Blocks.{with_block}
use Rattle.market_model.specs.Grid.{graph_of}
use Rattle.market_model.specs.History.{events_of, of_hour}
use Rattle.market_model.specs.Market.{reply_by}
use Rattle.market_model.specs.Orders.{is_open, next_name}
use Rattle.market_model.specs.Refusals.{block_desk_refusal, has_desk_room, refusal_of_command}
use Rattle.market_model.specs.Rules.{early_refusal, unless}
use Rattle.market_model.specs.Sweep.{sweep}
use Rattle.market_model.specs.WellFormed.{IsHistory, IsMarketSetup}
use Rattle.laws_of_books.specs.BlocksOf.{blocks_of, resting_block}
use Rattle.block_match.specs.Deals.{deal_of_block}
use Rattle.block_match.specs.Market.{deal_events, entered_block}
use Rattle.laws_of_joint_commands.specs.ByHour.{hour_events}
use Rattle.laws_of_joint_commands.specs.GoingOn.{GoesOnInHours}
use Rattle.laws_of_joint_commands.specs.PeriodRooms.{period_room}

-- a block enters, after the events of its first hour
abbrev pub block_entry : List Event → (caller : ℕ) → BlockOrder → Event
block_entry events caller order = event.EnteredBlock (next_name events order.first) caller order

-- the deal that a block finds as it enters: in the block book of its first hour and the rooms of its period
abbrev pub deal_found : Graph → (own : ℕ → List Event) → (caller : ℕ) → BlockOrder → Option BlockDeal
deal_found graph own caller order =
    let events = own order.first in
    deal_of_block graph (period_room own order.first order.last) (blocks_of events order.first)
    (resting_block (with_block events caller order) (entered_block events caller order))

-- the events of a deal of a period, where there is one
abbrev pub events_of_deal : (first last : ℕ) → Option BlockDeal → List Event
events_of_deal first last None = []
events_of_deal first last (Some deal) = deal_events first last deal

-- the events of the deal that a block finds as it enters
abbrev pub legs_found : Graph → (own : ℕ → List Event) → (caller : ℕ) → BlockOrder → List Event
legs_found graph own caller order = events_of_deal order.first order.last (deal_found graph own caller order)

-- what an hour has of the entry of a block and the legs of its deal: the first hour of the period both, each
-- other hour of it the legs, and any other nothing
abbrev pub its_part : (first last : ℕ) → (entry : Event) → (legs : List Event) → (hour : ℕ) → List Event
its_part first last entry legs hour = if is_within first last hour then (if first == hour then entry ∷ legs else legs) else []

-- the same of a block that enters after a history
abbrev pub has_of_entry : Graph → List Event → (caller : ℕ) → BlockOrder → (hour : ℕ) → List Event
has_of_entry graph history caller order hour =
    its_part order.first order.last (block_entry (of_hour order.first history) caller order) (legs_found graph (hour_events history) caller order) hour

-- the sweep of an hour after its own events and what it has of the entry
abbrev pub swept_after_entry : List Part → Graph → List Event → (caller : ℕ) → BlockOrder → (hour : ℕ) → List Event
swept_after_entry parts graph history caller order hour =
    sweep parts graph hour (of_hour hour history ++ has_of_entry graph history caller order hour)

-- both blocks of a deal are closed after some events of the first hour of its period
pub record AreClosed (first : ℕ) (deal : BlockDeal) (events : List Event) : Type 0 where
  pub taker : is_open events (record { hour = first; number = deal.taker }) ≡ false
  pub maker : is_open events (record { hour = first; number = deal.maker }) ≡ false

-- a block that would rest has room on the desk of its first hour: it is refused there as it finds no deal
abbrev pub refused_at_desk : List Event → (caller : ℕ) → BlockOrder → Option BlockDeal → Option Refusal
refused_at_desk events caller order None = unless (has_desk_room (with_block events caller order) (next_name events order.first)) refusal.DeskFull
refused_at_desk events caller order (Some deal) = None

-- whether there is room is told by the events of the first hour, and by whether there is a deal
abbrev pub BlocksFindRoomInTheirFirstHour : Type 0
BlocksFindRoomInTheirFirstHour = (setup : Setup) (history : List Event) (caller : ℕ) (order : BlockOrder) → IsMarketSetup setup → IsHistory setup history
    → early_refusal setup caller (command.EnterBlock order) ≡ None
    → block_desk_refusal (graph_of setup) history caller order
    ≡ refused_at_desk (of_hour order.first history) caller order (deal_found (graph_of setup) (hour_events history) caller order)

-- a block that no early rule refuses goes on with its entry and the legs of its deal: the history stays
-- well-formed, and each hour goes on with what it has of them
abbrev pub EntriesGoOnInHours : Type 0
EntriesGoOnInHours = (setup : Setup) (history : List Event) (caller : ℕ) (order : BlockOrder) → IsMarketSetup setup → IsHistory setup history
    → early_refusal setup caller (command.EnterBlock order) ≡ None
    → let done = block_entry (of_hour order.first history) caller order ∷ legs_found (graph_of setup) (hour_events history) caller order in
    IsHistory setup (history ++ done) × GoesOnInHours setup history done (has_of_entry (graph_of setup) history caller order)

-- and then both blocks of the deal are closed
abbrev pub EntryDealsCloseBoth : Type 0
EntryDealsCloseBoth = (setup : Setup) (history : List Event) (caller : ℕ) (order : BlockOrder) (deal : BlockDeal) → IsMarketSetup setup → IsHistory setup history
    → early_refusal setup caller (command.EnterBlock order) ≡ None → deal_found (graph_of setup) (hour_events history) caller order ≡ Some deal
    → AreClosed order.first deal (of_hour order.first history ++ has_of_entry (graph_of setup) history caller order order.first)

-- the reply to a block that no rule refuses is its entry, the legs of its deal, and then the sweep of each hour of
-- its period, after the hour's own events and what it has of these
abbrev pub BlocksEnterHourByHour : Type 0
BlocksEnterHourByHour = (setup : Setup) (parts : List Part) (history : List Event) (caller : ℕ) (order : BlockOrder) → IsMarketSetup setup → IsHistory setup history
    → refusal_of_command setup history caller (command.EnterBlock order) ≡ None
    → reply_by parts setup history caller (command.EnterBlock order)
    ≡ reply.Done ((block_entry (of_hour order.first history) caller order ∷ legs_found (graph_of setup) (hour_events history) caller order)
    ++ flat_map (swept_after_entry parts (graph_of setup) history caller order) (hours_from order.first order.last))

-- of it each hour of the period has its part and its own sweep, and any other hour nothing
abbrev pub EntriesOfAnHour : Type 0
EntriesOfAnHour = (setup : Setup) (parts : List Part) (history : List Event) (caller : ℕ) (order : BlockOrder) (hour : ℕ) → IsMarketSetup setup → IsHistory setup history
    → refusal_of_command setup history caller (command.EnterBlock order) ≡ None
    → of_hour hour (events_of (reply_by parts setup history caller (command.EnterBlock order)))
    ≡ (if is_within order.first order.last hour
    then has_of_entry (graph_of setup) history caller order hour ++ swept_after_entry parts (graph_of setup) history caller order hour else [])
