-- What each call notes: it is taken back, and what a store always keeps is kept.
use Rattle.std.proofs.Common.{◌≡◌, ◌∙◌, ◌<◌, ◌≤◌, ◌==◌, ℕ, Bool, true, List, Some, None, IsSomeAnd, IfSome, pos, ◌≤ℤ◌, refl, sym, ap, subst}
use Rattle.order_kinds.specs.declared.phase.Phase.{Phase}
use Rattle.zone_graph.specs.declared.route.Arc.{Arc}
use Rattle.zone_graph.specs.Pour.{same_arc}
use Rattle.contract_book.specs.declared.resting.Resting.{Resting}
use Rattle.contract_book.specs.Book.{IsBook, filled, order_of, parts_of, reduced, with_order, without}
use Rattle.contract_book.proofs.BookShapes.{without-none}
use Rattle.block_book.specs.declared.block.RestingBlock.{RestingBlock}
use Rattle.block_book.specs.Book.{block_of, with_block}
use Rattle.block_book.specs.Book as blocks
use Rattle.quarter_capacity.specs.Capacity.{most_offered}
use Rattle.flow_netting.specs.declared.quarter_set.QuarterSet.{QuarterSet}
use Rattle.order_kinds.specs.Period.{EachQuarter}
use Rattle.flow_netting.specs.Flows.{Flows, border_count, flow_of, is_halted, offered_of, remaining_of}
use Rattle.flow_netting.specs.QuarterSet.{has}
use Rattle.laws_of_hours.specs.Standing.{IsCarried, IsHaltSet, IsOffered}
use Rattle.hour_store.specs.declared.change.Change.{Change}
use Rattle.hour_store.specs.declared.change.Change.TheVariants as change
use Rattle.hour_store.specs.Contents.{Contents, IsOfPart, KeepsBooks}
use Rattle.hour_store.specs.Inside.{IsKept}
use Rattle.hour_store.proofs.Keeps.{kept-same, parts-less, parts-with_order}
use Rattle.hour_store.specs.TakenBack.{HasItsPlace}
use Rattle.hour_store.proofs.Leads.{IsUndoneBy}
use Rattle.hour_store.proofs.Places.{filled-placed, reduced-placed, without-placed}
use Rattle.hour_store.proofs.Ranges.{drawn-carried, drawn-offered, offers-alike, offers-offered}
use Rattle.hour_store.proofs.UndoneBlocks.{block-left-undone, block-rest-undone, block_number}
use Rattle.hour_store.proofs.UndoneBooks.{found-number, none-stands, order-undone, rest-undone, without-filled, without-reduced, without-twice}
use Rattle.hour_store.proofs.UndoneFlows.{carried-undone, halt-undone, offered-undone, phase-undone}

-- a record was noted that takes the change back
pub record IsNotedBy (record_of : Change) (old now : Contents) : Type 0 where
  pub kept : IsKept now
  pub undone : IsUndoneBy record_of old now

module _ (old now : Contents) (kept : IsKept old) where
  -- where the flows are the same
  kept-flows : parts_of now.book ≡ parts_of old.book → now.flows ≡ old.flows → IsKept now
  kept-flows parts flows =
      kept-same old now parts
      (subst (λ (f : Flows). (arc : Arc) (number : ℕ) → 1 ≤ number → number ≤ 4 → offered_of f arc number ≡ offered_of old.flows arc number) (sym flows) (λ arc number first last. refl))
      (subst (λ (f : Flows). (arc : Arc) (number : ℕ) → 1 ≤ number → number ≤ 4 → flow_of f arc number ≡ flow_of old.flows arc number) (sym flows) (λ arc number first last. refl)) kept

  pub rest-noted : (part : ℕ) (order : Resting) → order_of old.book order.number ≡ None → now.book ≡ with_order old.book part order → now.blocks ≡ old.blocks → now.flows ≡ old.flows
      → IsNotedBy (change.OrderRested part order) old now
  rest-noted part order absent is blocks flows = record {
    kept = kept-flows (ap parts_of is ∙ parts-with_order old.book part order) flows;
    undone = rest-undone part order old now absent is blocks flows;
  }

  -- an order of the book was changed
  module _ (part number : ℕ) (order : Resting) (is_book : IsBook old.book) (found : order_of old.book number ≡ Some order) (blocks : now.blocks ≡ old.blocks) (flows : now.flows ≡ old.flows) where
    own_number : order.number ≡ number
    own_number = found-number old.book number order found

    changed-noted : IsOfPart old.book part order → without now.book number ≡ without old.book number → HasItsPlace now.book part order → IsNotedBy (change.OrderChanged part order) old now
    changed-noted of_part less placed = record {
      kept = kept-flows (parts-less now.book old.book number less) flows;
      undone =
          order-undone part order old now is_book of_part
          (subst (λ n. without now.book n ≡ without old.book n) (sym own_number) less) placed blocks flows;
    }

    pub fill-noted : (lots moment : ℕ) → IsSomeAnd (order_of old.book number) (λ o. IsOfPart old.book part o × (1 ≤ lots) × (lots ≤ o.shown)) → now.book ≡ filled old.book number lots moment
        → IsNotedBy (change.OrderChanged part order) old now
    fill-noted lots moment asked is =
        let of_part = (rw found at asked).0 in
        changed-noted of_part (ap (λ b. without b number) is ∙ without-filled old.book number order lots moment found own_number)
        (subst (λ b. HasItsPlace b part order) (sym is) (filled-placed old.book is_book part order of_part number found own_number lots moment))

    pub reduce-noted : (by : ℕ) → IsSomeAnd (order_of old.book number) (λ o. IsOfPart old.book part o × (o.ice ≡ None) × (1 ≤ by) × (by < o.left)) → now.book ≡ reduced old.book number by
        → IsNotedBy (change.OrderChanged part order) old now
    reduce-noted by asked is =
        let of_part = (rw found at asked).0 in
        changed-noted of_part (ap (λ b. without b number) is ∙ without-reduced old.book number order by found own_number)
        (subst (λ b. HasItsPlace b part order) (sym is) (reduced-placed old.book is_book part order of_part number found own_number by))

    pub withdraw-noted : IfSome (order_of old.book number) (λ o. IsOfPart old.book part o) → now.book ≡ without old.book number → IsNotedBy (change.OrderChanged part order) old now
    withdraw-noted asked is =
        changed-noted (rw found at asked) (ap (λ b. without b number) is ∙ without-twice old.book number)
        (subst (λ b. HasItsPlace b part order) (ap (without old.book) own_number ∙ sym is) (without-placed old.book part order))

  pub rest_block-noted : (block : RestingBlock) → block_of old.blocks block.number ≡ None → now.blocks ≡ with_block old.blocks block → now.book ≡ old.book → now.flows ≡ old.flows
      → IsNotedBy (change.BlockRested block.number) old now
  rest_block-noted block absent is book flows = record {
    kept = kept-flows (ap parts_of book) flows;
    undone = block-rest-undone block old now absent is book flows;
  }

  pub withdraw_block-noted : (number : ℕ) (block : RestingBlock) → blocks.IsBook old.blocks → block_of old.blocks number ≡ Some block → now.blocks ≡ blocks.without old.blocks number → now.book ≡ old.book
      → now.flows ≡ old.flows → IsNotedBy (change.BlockLeft block) old now
  withdraw_block-noted number block is_book found is book flows =
      let own : block.number ≡ number = block_number old.blocks number block found in
      record {
        kept = kept-flows (ap parts_of book) flows;
        undone =
            block-left-undone block old now is_book (ap (block_of old.blocks) own ∙ found)
            (is ∙ ap (blocks.without old.blocks) (sym own)) book flows;
      }

  -- the flows were changed
  module _ (keeps : KeepsBooks old now) where
    pub grant-noted : (arc : Arc) (set : QuarterSet) (lots : ℕ) → arc.border < border_count old.flows
        → EachQuarter (λ number. has set number ≡ true → pos lots ≤ℤ remaining_of old.flows arc number) → IsCarried (same_arc arc) (has set) lots old.flows now.flows
        → IsNotedBy (change.Carried arc set lots) old now
    grant-noted arc set lots border room carried = record {
      kept = record {
        parts = ap parts_of keeps.book ∙ kept.parts;
        drawn = drawn-carried arc (has set) lots old.flows now.flows kept.drawn room carried;
        offers = offers-alike old.flows now.flows carried.offers kept.offers;
      };
      undone = carried-undone arc set lots old now keeps border kept.drawn carried;
    }

    pub offer-noted : (arc : Arc) (number lots : ℕ) → arc.border < border_count old.flows → 1 ≤ number → number ≤ 4 → lots ≤ most_offered → flow_of old.flows arc number ≤ℤ pos lots
        → IsOffered arc (λ quarter. quarter == number) lots old.flows now.flows → IsNotedBy (change.Offered arc number (offered_of old.flows arc number)) old now
    offer-noted arc number lots border first last most covers offered = record {
      kept = record {
        parts = ap parts_of keeps.book ∙ kept.parts;
        drawn = drawn-offered arc number lots old.flows now.flows kept.drawn covers offered;
        offers = offers-offered arc number lots old.flows now.flows kept.offers most offered;
      };
      undone = offered-undone arc number lots old now keeps border first last kept.drawn kept.offers offered;
    }

    pub halt-noted : (border : ℕ) (halted : Bool) → border < border_count old.flows → IsHaltSet border halted old.flows now.flows
        → IsNotedBy (change.HaltSet border (is_halted old.flows border)) old now
    halt-noted border halted within set = record {
      kept = kept-same old now (ap parts_of keeps.book) set.offers set.flows kept;
      undone = halt-undone border halted old now keeps within set;
    }

    pub phase-noted : (phase : Phase) → now.flows ≡ record old.flows { phase = phase } → IsNotedBy (change.PhaseSet old.flows.phase) old now
    phase-noted phase is = record {
      kept =
          kept-same old now (ap parts_of keeps.book)
          (subst (λ (f : Flows). (arc : Arc) (number : ℕ) → 1 ≤ number → number ≤ 4 → offered_of f arc number ≡ offered_of old.flows arc number) (sym is) (λ arc number first last. refl))
          (subst (λ (f : Flows). (arc : Arc) (number : ℕ) → 1 ≤ number → number ≤ 4 → flow_of f arc number ≡ flow_of old.flows arc number) (sym is) (λ arc number first last. refl)) kept;
      undone = phase-undone phase old now keeps is;
    }

-- where no order is found, none is withdrawn
pub nothing-withdrawn : (book : List (List Resting)) (number : ℕ) → order_of book number ≡ None → without book number ≡ book
nothing-withdrawn book number none = without-none book number (λ i low. none-stands book number none i)
