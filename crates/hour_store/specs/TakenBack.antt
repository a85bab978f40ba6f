-- How a change is taken back: when it can be, what becomes of the contents, and where a list of
-- records leads back to.
use Rattle.std.specs.Prelude.{◌≡◌, ℕ, ◌<◌, ◌≤◌, ◌==◌, true, List, [], ◌∷◌, length, None, pos, ◌≤ℤ◌}
use Rattle.order_kinds.specs.declared.side.Side.{Side}
use Rattle.zone_graph.specs.declared.route.Arc.{Arc}
use Rattle.zone_graph.specs.Pour.{opposite_arc, same_arc}
use Rattle.zone_graph.specs.Route.{IsIn}
use Rattle.contract_book.specs.declared.resting.Resting.{Resting}
use Rattle.contract_book.specs.Book.{line_of, order_count, parts_of, with_order, without}
use Rattle.contract_book.specs.Resting.{IsSound}
use Rattle.block_book.specs.declared.block.RestingBlock.{RestingBlock}
use Rattle.block_book.specs.Book.{block_of, with_block}
use Rattle.block_book.specs.Book as blocks
use Rattle.quarter_capacity.specs.Capacity.{most_offered}
use Rattle.flow_netting.specs.declared.quarter_set.QuarterSet.{QuarterSet}
use Rattle.order_kinds.specs.Period.{EachQuarter}
use Rattle.flow_netting.specs.Flows.{Flows, border_count, flow_of, remaining_of}
use Rattle.flow_netting.specs.QuarterSet.{has}
use Rattle.laws_of_hours.specs.Standing.{IsCarried, IsHaltSet, IsOffered}
use Rattle.hour_store.specs.declared.change.Change.{Change}
use Rattle.hour_store.specs.declared.change.Change.TheVariants as change
use Rattle.hour_store.specs.Contents.{AreAlike, AreSame, Contents, KeepsBooks}

-- who has an order's number in a book rests in its part, on its side and in its zone
abbrev pub HasItsPlace : (book : List (List Resting)) → (part : ℕ) → Resting → Type 0
HasItsPlace book part was = (place : ℕ) (side : Side) (order : Resting) → IsIn order (line_of book place side) → order.number ≡ was.number
    → (place ≡ part) × (side ≡ was.side) × (order.zone ≡ was.zone)

-- an order can rest in a part again, once its record of now is out
pub record CanRestAgain (book : List (List Resting)) (part : ℕ) (was : Resting) : Type 0 where
  pub part_there : part < parts_of book
  pub sound : IsSound was
  pub place : order_count (without book was.number) < 4096

-- a block can rest again
pub record CanRestBlock (book : List RestingBlock) (was : RestingBlock) : Type 0 where
  pub absent : block_of book was.number ≡ None
  pub place : length book < 4096

-- lots can be carried on an arc in each quarter of a set
pub record CanFlow (flows : Flows) (arc : Arc) (set : QuarterSet) (lots : ℕ) : Type 0 where
  pub border : arc.border < border_count flows
  pub room : EachQuarter (λ number. has set number ≡ true → pos lots ≤ℤ remaining_of flows arc number)

-- lots can be offered on an arc in a quarter
pub record CanOfferIn (flows : Flows) (arc : Arc) (number lots : ℕ) : Type 0 where
  pub border : arc.border < border_count flows
  pub first : 1 ≤ number
  pub last : number ≤ 4
  pub most : lots ≤ most_offered
  pub covers : flow_of flows arc number ≤ℤ pos lots

-- a change can be taken back
abbrev pub CanTakeBack : Change → (now : Contents) → Type 0
CanTakeBack (change.OrderRested part order) now = HasItsPlace now.book part order
CanTakeBack (change.OrderChanged part was) now = HasItsPlace now.book part was × CanRestAgain now.book part was
CanTakeBack (change.BlockRested number) now = Unit {0}
CanTakeBack (change.BlockLeft was) now = CanRestBlock now.blocks was
CanTakeBack (change.Carried arc set lots) now = CanFlow now.flows (opposite_arc arc) set lots
CanTakeBack (change.Offered arc number lots) now = CanOfferIn now.flows arc number lots
CanTakeBack (change.HaltSet border was) now = border < border_count now.flows
CanTakeBack (change.PhaseSet was) now = Unit {0}

-- the contents are those of now with another book of orders
pub record HasBook (book : List (List Resting)) (now before : Contents) : Type 0 where
  pub book_is : before.book ≡ book
  pub blocks : before.blocks ≡ now.blocks
  pub flows : AreAlike now.flows before.flows

-- and with another book of blocks
pub record HasBlocks (blocks : List RestingBlock) (now before : Contents) : Type 0 where
  pub book : before.book ≡ now.book
  pub blocks_are : before.blocks ≡ blocks
  pub flows : AreAlike now.flows before.flows

-- a change is taken back: an order that came to rest is out, one that changed is as it was; so are
-- blocks; what was carried on an arc is carried on the opposite one, and what was offered, halted or
-- the phase is again
abbrev pub IsTakenBack : Change → (now before : Contents) → Type 0
IsTakenBack (change.OrderRested part order) now before = HasBook (without now.book order.number) now before
IsTakenBack (change.OrderChanged part was) now before = HasBook (with_order (without now.book was.number) part was) now before
IsTakenBack (change.BlockRested number) now before = HasBlocks (blocks.without now.blocks number) now before
IsTakenBack (change.BlockLeft was) now before = HasBlocks (with_block now.blocks was) now before
IsTakenBack (change.Carried arc set lots) now before = KeepsBooks now before × IsCarried (same_arc (opposite_arc arc)) (has set) lots now.flows before.flows
IsTakenBack (change.Offered arc number lots) now before = KeepsBooks now before × IsOffered arc (λ quarter. quarter == number) lots now.flows before.flows
IsTakenBack (change.HaltSet border was) now before = KeepsBooks now before × IsHaltSet border was now.flows before.flows
IsTakenBack (change.PhaseSet was) now before = KeepsBooks now before × AreAlike (record now.flows { phase = was }) before.flows

-- records, the last one first, lead from the contents of now back to those of a target: each can be
-- taken back in its turn, to contents that there are, and in the end the contents are the same
unfoldable pub LeadsBack : List Change → (now target : Contents) → Type 0
LeadsBack [] now target = AreSame target now
LeadsBack (last ∷ records) now target =
    CanTakeBack last now × ((before : Contents) × IsTakenBack last now before)
    × ((before : Contents) → IsTakenBack last now before → LeadsBack records before target)
