-- Contents that say the same: what can be taken back from the one can be from the other, and alike.
use Rattle.std.proofs.Common.{◌≡◌, ◌∙◌, ◌≤◌, ◌==◌, ◌&&◌, ◌+ℤ◌, ◌≤ℤ◌, pos, ℕ, refl, sym, ap, subst, arith, if◌then◌else◌}
use Rattle.zone_graph.specs.declared.route.Arc.{Arc}
use Rattle.zone_graph.specs.Pour.{opposite_arc, same_arc}
use Rattle.contract_book.specs.Book.{with_order, without}
use Rattle.block_book.specs.Book.{with_block}
use Rattle.block_book.specs.Book as blocks
use Rattle.quarter_capacity.specs.Capacity.{remaining_of}
use Rattle.flow_netting.specs.Flows.{Flows, added_by, flow_of, offered_of}
use Rattle.flow_netting.specs.Flows as kept
use Rattle.flow_netting.specs.QuarterSet.{has}
use Rattle.hour_store.specs.declared.change.Change.{Change}
use Rattle.hour_store.specs.declared.change.Change.TheVariants as change
use Rattle.hour_store.specs.Contents.{AreAlike, AreSame, Contents, KeepsBooks}
use Rattle.hour_store.specs.TakenBack.{CanRestAgain, CanRestBlock, CanTakeBack, HasItsPlace, IsTakenBack}

pub alike-itself : (flows : Flows) → AreAlike flows flows
alike-itself flows = record {
  offers = λ arc number first last. refl;
  flows = λ arc number first last. refl;
  halts = λ border. refl;
  phase = refl;
  size = refl;
}

pub alike-through : (a b c : Flows) → AreAlike a b → AreAlike b c → AreAlike a c
alike-through a b c one two = record {
  offers = λ arc number first last. two.offers arc number first last ∙ one.offers arc number first last;
  flows = λ arc number first last. two.flows arc number first last ∙ one.flows arc number first last;
  halts = λ border. two.halts border ∙ one.halts border;
  phase = two.phase ∙ one.phase;
  size = two.size ∙ one.size;
}

pub alike-other : (a b : Flows) → AreAlike a b → AreAlike b a
alike-other a b alike = record {
  offers = λ arc number first last. sym (alike.offers arc number first last);
  flows = λ arc number first last. sym (alike.flows arc number first last);
  halts = λ border. sym (alike.halts border);
  phase = sym alike.phase;
  size = sym alike.size;
}

pub alike-equal : (a b : Flows) → b ≡ a → AreAlike a b
alike-equal a b same = subst (AreAlike a) (sym same) (alike-itself a)

pub same-itself : (contents : Contents) → AreSame contents contents
same-itself contents = record { book = refl; blocks = refl; flows = alike-itself contents.flows }

pub same-other : (a b : Contents) → AreSame a b → AreSame b a
same-other a b same = record { book = sym same.book; blocks = sym same.blocks; flows = alike-other a.flows b.flows same.flows }

pub same-through : (a b c : Contents) → AreSame a b → AreSame b c → AreSame a c
same-through a b c one two = record {
  book = two.book ∙ one.book;
  blocks = two.blocks ∙ one.blocks;
  flows = alike-through a.flows b.flows c.flows one.flows two.flows;
}

-- what remains is the same
pub remaining-same : (a b : Flows) → kept.SameOffers a.borders b.borders → kept.SameFlows a.borders b.borders → (arc : Arc) (number : ℕ) → 1 ≤ number → number ≤ 4
    → kept.remaining_of b arc number ≡ kept.remaining_of a arc number
remaining-same a b offers flows arc number first last =
    ap (λ o. remaining_of o (flow_of b arc number)) (offers arc number first last)
    ∙ ap (remaining_of (offered_of a arc number)) (flows arc number first last)

module _ (a b : Contents) (same : AreSame a b) where
  -- what can be taken back from the one can be from the other
  pub can-again : (record_of : Change) → CanTakeBack record_of a → CanTakeBack record_of b
  can-again (change.OrderRested part order) can = subst (λ book. HasItsPlace book part order) (sym same.book) can
  can-again (change.OrderChanged part was) can =
      (subst (λ book. HasItsPlace book part was) (sym same.book) can.0, subst (λ book. CanRestAgain book part was) (sym same.book) can.1)
  can-again (change.BlockRested number) can = tt
  can-again (change.BlockLeft was) can = subst (λ list. CanRestBlock list was) (sym same.blocks) can
  can-again (change.Carried arc set lots) can = record {
    border = let size = same.flows.size in let low = can.border in omega (arith, size, low);
    room = λ number first last counts.
        subst (λ z. pos lots ≤ℤ z) (sym (remaining-same a.flows b.flows same.flows.offers same.flows.flows (opposite_arc arc) number first last)) (can.room number first last counts);
  }
  can-again (change.Offered arc number lots) can = record {
    border = let size = same.flows.size in let low = can.border in omega (arith, size, low);
    first = can.first;
    last = can.last;
    most = can.most;
    covers = subst (λ z. z ≤ℤ pos lots) (sym (same.flows.flows arc number can.first can.last)) can.covers;
  }
  can-again (change.HaltSet border was) can = let size = same.flows.size in omega (arith, size, can)
  can-again (change.PhaseSet was) can = tt

  books-again : (before : Contents) → KeepsBooks b before → KeepsBooks a before
  books-again before keeps = record { book = keeps.book ∙ same.book; blocks = keeps.blocks ∙ same.blocks }

  -- and what the one is after it was taken back, the other is
  pub back-again : (record_of : Change) (before : Contents) → IsTakenBack record_of b before → IsTakenBack record_of a before
  back-again (change.OrderRested part order) before back = record {
    book_is = back.book_is ∙ ap (λ book. without book order.number) same.book;
    blocks = back.blocks ∙ same.blocks;
    flows = alike-through a.flows b.flows before.flows same.flows back.flows;
  }
  back-again (change.OrderChanged part was) before back = record {
    book_is = back.book_is ∙ ap (λ book. with_order (without book was.number) part was) same.book;
    blocks = back.blocks ∙ same.blocks;
    flows = alike-through a.flows b.flows before.flows same.flows back.flows;
  }
  back-again (change.BlockRested number) before back = record {
    book = back.book ∙ same.book;
    blocks_are = back.blocks_are ∙ ap (λ list. blocks.without list number) same.blocks;
    flows = alike-through a.flows b.flows before.flows same.flows back.flows;
  }
  back-again (change.BlockLeft was) before back = record {
    book = back.book ∙ same.book;
    blocks_are = back.blocks_are ∙ ap (λ list. with_block list was) same.blocks;
    flows = alike-through a.flows b.flows before.flows same.flows back.flows;
  }
  back-again (change.Carried arc set lots) before back = (
    books-again before back.0,
    record {
      flows = λ other number first last.
          back.1.flows other number first last
          ∙ ap (λ z. if has set number then z +ℤ added_by (same_arc (opposite_arc arc)) lots other else z) (same.flows.flows other number first last);
      offers = λ other number first last. back.1.offers other number first last ∙ same.flows.offers other number first last;
      halts = λ border. back.1.halts border ∙ same.flows.halts border;
      phase = back.1.phase ∙ same.flows.phase;
      size = back.1.size ∙ same.flows.size;
    },
  )
  back-again (change.Offered arc number lots) before back = (
    books-again before back.0,
    record {
      offers = λ other quarter first last.
          back.1.offers other quarter first last
          ∙ ap (λ o. if same_arc arc other && (quarter == number) then lots else o) (same.flows.offers other quarter first last);
      flows = λ other quarter first last. back.1.flows other quarter first last ∙ same.flows.flows other quarter first last;
      halts = λ border. back.1.halts border ∙ same.flows.halts border;
      phase = back.1.phase ∙ same.flows.phase;
      size = back.1.size ∙ same.flows.size;
    },
  )
  back-again (change.HaltSet border was) before back = (
    books-again before back.0,
    record {
      halts = λ other. back.1.halts other ∙ ap (λ h. if other == border then was else h) (same.flows.halts other);
      offers = λ other number first last. back.1.offers other number first last ∙ same.flows.offers other number first last;
      flows = λ other number first last. back.1.flows other number first last ∙ same.flows.flows other number first last;
      phase = back.1.phase ∙ same.flows.phase;
      size = back.1.size ∙ same.flows.size;
    },
  )
  back-again (change.PhaseSet was) before back = (
    books-again before back.0,
    record {
      offers = λ other number first last. back.1.offers other number first last ∙ same.flows.offers other number first last;
      flows = λ other number first last. back.1.flows other number first last ∙ same.flows.flows other number first last;
      halts = λ border. back.1.halts border ∙ same.flows.halts border;
      phase = back.1.phase;
      size = back.1.size ∙ same.flows.size;
    },
  )
