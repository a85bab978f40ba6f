-- A block that enters, told by the desk of its first hour.
use Rattle.std.specs.Prelude.{◌≡◌, ℕ, ◌+◌, ◌-◌, ◌<◌, ◌^◌, List, count_by, length, nat_lt, Option, Some, None}
use Rattle.order_kinds.specs.declared.order.BlockOrder.{BlockOrder}
use Rattle.zone_graph.specs.Graph.{Graph, HasZone, border_count}
use Rattle.zone_graph.specs.Rooms.{room_of}
use Rattle.cut_proof.specs.Carrying.{FitTogether}
use Rattle.block_book.specs.declared.block.RestingBlock.{RestingBlock}
use Rattle.laws_of_books.specs.BlocksOf.{blocks_of, entered_resting_block}
use Rattle.block_match.specs.declared.deal.BlockDeal.{BlockDeal}
use Rattle.block_match.specs.Deals.{deal_of_block}
use Rattle.block_match.specs.Meeting.{HaveZones}
use Rattle.market_model.specs.declared.refusal.Refusal.{Refusal}
use Rattle.market_model.specs.declared.refusal.Refusal.TheVariants as refusal
use Rattle.market_model.specs.History.{enters_in}
use Rattle.market_model.specs.Orders.{next_name, open_names}
use Rattle.market_model.specs.Refusals.{desk_room}
use Rattle.market_model.specs.Rules.{unless}
use Rattle.hour_desk.specs.declared.part_work.PartWork.{PartWork}
use Rattle.hour_desk.specs.declared.part_work.PartWork.TheVariants as work
use Rattle.hour_desk.specs.Desk.{DeskState}

-- the record of the block, as it enters
abbrev pub entering_block : DeskState → (caller : ℕ) → BlockOrder → RestingBlock
entering_block desk caller order = entered_resting_block (next_name desk.settled desk.hour) caller order (length desk.settled + 1)

-- the deal that it finds within some rooms
abbrev pub deal_within : Graph → List (ℕ × ℕ) → (caller : ℕ) → BlockOrder → DeskState → Option BlockDeal
deal_within graph rooms caller order desk = deal_of_block graph (room_of rooms) (blocks_of desk.settled desk.hour) (entering_block desk caller order)

-- it can be sought there
pub record CanSeek (graph : Graph) (rooms : List (ℕ × ℕ)) (order : BlockOrder) (desk : DeskState) : Type 0 where
  pub unplanned : desk.planned ≡ None
  pub numbers : count_by (enters_in desk.hour) desk.settled < 2 ^ 32 - 1
  pub zone : HasZone graph order.zone
  pub zones : HaveZones graph (blocks_of desk.settled desk.hour)
  pub size : length rooms ≡ border_count graph
  pub fit : FitTogether graph (room_of rooms)

-- a block that finds no deal has room on the desk
abbrev pub full_refusal : Option BlockDeal → DeskState → Option Refusal
full_refusal None desk = unless (nat_lt (length (open_names desk.settled desk.hour)) desk_room) refusal.DeskFull
full_refusal (Some deal) desk = None

-- what the first hour shares of the entry, and what each other hour does
abbrev pub first_work : (caller : ℕ) → BlockOrder → List BlockDeal → PartWork
first_work caller order deals = work.Block order.first order.last (Some (record { caller = caller; order = order })) deals

abbrev pub other_work : BlockOrder → List BlockDeal → PartWork
other_work order deals = work.Block order.first order.last None deals

-- the same work without an entry
abbrev pub without_entry : PartWork → PartWork
without_entry (work.Block first last entered deals) = work.Block first last None deals
without_entry given = given
