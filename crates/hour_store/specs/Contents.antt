-- What an hour keeps: the books of its orders and of its blocks, and its flows.
use Rattle.std.specs.Prelude.{◌≡◌, ℕ, ◌≤◌, List, pos, ◌≤ℤ◌}
use Rattle.zone_graph.specs.declared.route.Arc.{Arc}
use Rattle.zone_graph.specs.Route.{IsIn}
use Rattle.contract_book.specs.declared.resting.Resting.{Resting}
use Rattle.contract_book.specs.Book.{line_of}
use Rattle.block_book.specs.declared.block.RestingBlock.{RestingBlock}
use Rattle.quarter_capacity.specs.Capacity.{most_offered}
use Rattle.order_kinds.specs.Period.{EachQuarter}
use Rattle.flow_netting.specs.Flows.{Flows, InEachQuarter, SameFlows, SameHalts, SameOffers, border_count, flow_of, is_halted, offered_of, remaining_of}

-- the orders that rest, of each part first its buys, then its sells; the blocks that rest; the flows
pub record Contents : Type 0 where
  pub book : List (List Resting)
  pub blocks : List RestingBlock
  pub flows : Flows

-- flows say the same of each arc in each quarter and of each border, and the phase is the same
pub record AreAlike (old new : Flows) : Type 0 where
  pub offers : SameOffers old.borders new.borders
  pub flows : SameFlows old.borders new.borders
  pub halts : SameHalts old.borders new.borders
  pub phase : new.phase ≡ old.phase
  pub size : border_count new ≡ border_count old

-- flows say the same of the two arcs over a border in each quarter and of the border, and the phase is the same
pub record AreAlikeOver (border : ℕ) (old new : Flows) : Type 0 where
  pub offers : (arc : Arc) → arc.border ≡ border → EachQuarter (λ number. offered_of new arc number ≡ offered_of old arc number)
  pub flows : (arc : Arc) → arc.border ≡ border → EachQuarter (λ number. flow_of new arc number ≡ flow_of old arc number)
  pub halts : is_halted new border ≡ is_halted old border
  pub phase : new.phase ≡ old.phase

-- the books are the same, and the flows say the same
pub record AreSame (old new : Contents) : Type 0 where
  pub book : new.book ≡ old.book
  pub blocks : new.blocks ≡ old.blocks
  pub flows : AreAlike old.flows new.flows

-- the books are the same, whatever becomes of the flows
pub record KeepsBooks (old new : Contents) : Type 0 where
  pub book : new.book ≡ old.book
  pub blocks : new.blocks ≡ old.blocks

-- an order rests in a part
abbrev pub IsOfPart : List (List Resting) → (part : ℕ) → Resting → Type 0
IsOfPart book part order = IsIn order (line_of book part order.side)

-- on no arc in any quarter more flows than is offered
abbrev pub NothingOverdrawn : Flows → Type 0
NothingOverdrawn flows = InEachQuarter (λ arc number. pos 0 ≤ℤ remaining_of flows arc number)

-- no offer is above the most that is offered
abbrev pub OffersInRange : Flows → Type 0
OffersInRange flows = InEachQuarter (λ arc number. offered_of flows arc number ≤ most_offered)
