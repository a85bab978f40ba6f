-- What an entry and a withdrawal make of the book of an hour.
use Rattle.std.proofs.Common.{◌≡◌, ◌≢◌, ◌∙◌, inl, inr, ℕ, ◌+◌, ◌==◌, true, List, [], ◌∷◌, None, length, eq-eqb, refl, sym, ap, subst, if◌then◌else◌, arith}
use Rattle.std.proofs.lemmas.Bool.{and_from, lt-ltb, ltb-true}
use Rattle.std.proofs.lemmas.List.Sorted.{ranks_by}
use Rattle.order_kinds.specs.declared.order.BlockOrder.{BlockOrder}
use Rattle.order_kinds.specs.declared.order.OrderName.{OrderName}
use Rattle.zone_graph.specs.Route.{IsIn}
use Rattle.zone_graph.proofs.InOrder.{IsIn-put_in_order, from_put_in_order, in_order-filter, in_order-put}
use Rattle.zone_graph.proofs.Membership.{IsIn-right}
use Rattle.block_book.specs.declared.block.RestingBlock.{RestingBlock}
use Rattle.block_book.specs.Blocks.{number_cmp}
use Rattle.block_book.specs.Book.{block_of, with_block, without}
use Rattle.block_book.specs.Priority.{number_total}
use Rattle.block_book.proofs.Lists.{apart, find-none, from_without, in_without, number-ties}
use Rattle.market_model.specs.declared.event.Event.{Event}
use Rattle.market_model.specs.declared.event.Event.TheVariants as event
use Rattle.market_model.specs.declared.setup.Setup.{Setup}
use Rattle.market_model.specs.History.{and_then, of_hour}
use Rattle.market_model.specs.Orders.{PlacedBlock, block_moment, block_placed_by, blocks_placed, is_open, left}
use Rattle.market_model.specs.WellFormed.{FitAfter, Fits}
use Rattle.laws_of_market.proofs.Members.{IsIn-filter_map}
use Rattle.laws_of_market.proofs.Names.{block_name-new, names-once}
use Rattle.laws_of_market.proofs.Placed.{from_picked-more}
use Rattle.laws_of_market.proofs.Repeats.{fit-more}
use Rattle.laws_of_market.proofs.Soundness.{block_fault-none, lots_in_range-bounds}
use Rattle.laws_of_market.proofs.Tests.{same_name-refl}
use Rattle.laws_of_market.proofs.Wholes.{new_block-whole, other_name}
use Rattle.laws_of_market.proofs.LocalMoments.{block_moment-more}
use Rattle.laws_of_books.specs.BookOf.{next_moment}
use Rattle.laws_of_books.proofs.LineOrders.{same_names}
use Rattle.laws_of_books.proofs.TakenOff.{left-gone}
use Rattle.laws_of_books.specs.BlocksOf.{blocks_of, entered_resting_block, resting_block, rests_from}
use Rattle.laws_of_books.proofs.BlocksElsewhere.{new-other, open-rests}
use Rattle.laws_of_books.proofs.BlocksKept.{book-by, there-after, there-before}
use Rattle.laws_of_books.proofs.MarketBooks.{book-strict, from-book, rests-named, to-book}

module _ (setup : Setup) (events : List Event) (fit : FitAfter setup [] events) (name : OrderName) (caller : ℕ) (order : BlockOrder)
    (fits : Fits setup events (event.EnteredBlock name caller order)) where
  abbrev entry : Event
  entry = event.EnteredBlock name caller order

  abbrev after : List Event
  after = and_then events entry

  abbrev new : PlacedBlock
  new = record { name = name; caller = caller; order = order }

  abbrev at_rest : RestingBlock
  at_rest = entered_resting_block name caller order (next_moment events order.first)

  fit_after : FitAfter setup [] after
  fit_after = fit-more setup events entry fit fits

  in_its_hour : name.hour ≡ order.first
  in_its_hour = ap (λ (n : OrderName). n.hour) fits.named

  left-new : left after name ≡ order.quantity.0
  left-new = new_block-whole setup events fit new entry fits refl

  moment-new : block_moment after new ≡ next_moment events order.first
  moment-new =
      block_moment-more order.first events entry new (eq-eqb name.hour order.first in_its_hour) in_its_hour
      ∙ ap (λ b. if b then length (of_hour order.first events) + 1 else block_moment events new) (same_name-refl name)

  -- so this is its record
  record-new : resting_block after new ≡ at_rest
  record-new =
      let lots = left-new in
      let moment = moment-new in
      λ i. record {
        number = name.number;
        caller = caller;
        zone = order.zone;
        side = order.side;
        price = order.price;
        quantity = lots i;
        last = order.last;
        moment = moment i;
      }

  rests-new : rests_from after order.first new ≡ true
  rests-new =
      let some = (lots_in_range-bounds order.quantity (block_fault-none order fits.sound).quantity).0 in
      let lots = left-new in
      and_from (is_open after name) (order.first == order.first) (lt-ltb 0 (left after name) (omega (arith, some, lots))) (eq-eqb order.first order.first refl)

  is_new : (block : PlacedBlock) → IsIn block (blocks_placed events) → name ≢ block.name
  is_new block there = new-other events name (block_name-new setup events name caller order (names-once setup events fit) fits) block there

  in-new : IsIn at_rest (blocks_of after order.first)
  in-new =
      subst (λ r. IsIn r (blocks_of after order.first)) record-new
      (to-book setup after fit_after order.first new (IsIn-filter_map block_placed_by entry new after (IsIn-right entry events (entry ∷ []) (inl refl)) refl) rests-new)

  -- no block of the hour has its number
  pub apart-new : (other : RestingBlock) → IsIn other (blocks_of events order.first) → name.number ≢ other.number
  apart-new other i same =
      let there = from-book setup events fit order.first other i in
      let hours : name.hour ≡ there.block.name.hour =
      in_its_hour ∙ sym (rests-named setup events fit order.first there.block there.is_placed there.rests) in
      is_new there.block there.is_placed (same_names name there.block.name hours (same ∙ ap (λ (r : RestingBlock). r.number) there.is))

  pub number-free : block_of (blocks_of events order.first) name.number ≡ None
  number-free = find-none name.number (blocks_of events order.first) (λ other i. λ same. apart-new other i (sym same))

  -- the book is the one with the block
  pub book-entered : blocks_of after order.first ≡ with_block (blocks_of events order.first) at_rest
  book-entered =
      book-by setup after fit_after order.first (with_block (blocks_of events order.first) at_rest)
      (in_order-put number_cmp (ranks_by number_total (λ (b : RestingBlock). b)) (blocks_of events order.first) at_rest (book-strict setup events fit order.first)
      (λ other i not_before. apart number_cmp number_total number-ties at_rest other (apart-new other i) not_before))
      (λ x there. elim (from_picked-more block_placed_by there.block events entry there.is_placed) [
        | inl old ↦ IsIn-put_in_order number_cmp x (blocks_of events order.first) at_rest (inr
            (there-before setup events fit entry fit_after order.first x there old (other_name name there.block.name (is_new there.block old))))
        | inr is ↦
            let same : new ≡ there.block = cc in
            IsIn-put_in_order number_cmp x (blocks_of events order.first) at_rest (inl (there.is ∙ ap (resting_block after) (sym same) ∙ record-new))
      ])
      (λ x i. elim (from_put_in_order number_cmp x (blocks_of events order.first) at_rest i) [
        | inl is ↦ subst (λ r. IsIn r (blocks_of after order.first)) (sym is) in-new
        | inr old ↦
            let there = from-book setup events fit order.first x old in
            there-after setup events fit entry fit_after order.first x there (other_name name there.block.name (is_new there.block there.is_placed))
      ])

module _ (setup : Setup) (events : List Event) (fit : FitAfter setup [] events) (name : OrderName) (lots : ℕ)
    (fits : Fits setup events (event.Withdrawn name lots)) where
  abbrev withdrawal : Event
  withdrawal = event.Withdrawn name lots

  abbrev gone : List Event
  gone = and_then events withdrawal

  fit_gone : FitAfter setup [] gone
  fit_gone = fit-more setup events withdrawal fit fits

  -- a block that is open after it has another name
  other-open : (block : PlacedBlock) → is_open gone block.name ≡ true → name ≢ block.name
  other-open block opened same =
      let some = ltb-true 0 (left gone block.name) opened in
      let none : left gone block.name ≡ 0 = ap (left gone) (sym same) ∙ left-gone setup events fit name lots fits in
      absurd (omega (arith, some, none))

  pub book-withdrawn : blocks_of gone name.hour ≡ without (blocks_of events name.hour) name.number
  book-withdrawn =
      book-by setup gone fit_gone name.hour (without (blocks_of events name.hour) name.number)
      (in_order-filter number_cmp _ (blocks_of events name.hour) (book-strict setup events fit name.hour))
      (λ x there.
      let other = other-open there.block (open-rests gone name.hour there.block there.rests) in
      let hour = rests-named setup gone fit_gone name.hour there.block there.is_placed there.rests in
      elim (from_picked-more block_placed_by there.block events withdrawal there.is_placed) [
        | inl old ↦ in_without name.number x (blocks_of events name.hour)
            (there-before setup events fit withdrawal fit_gone name.hour x there old (other_name name there.block.name other))
            (λ same. other (same_names name there.block.name (sym hour) (sym (sym (ap (λ (r : RestingBlock). r.number) there.is) ∙ same))))
        | inr new ↦ absurd (cc)
      ])
      (λ x i.
      let was = from_without name.number x (blocks_of events name.hour) i in
      let there = from-book setup events fit name.hour x was.0 in
      there-after setup events fit withdrawal fit_gone name.hour x there
      (other_name name there.block.name (λ same. was.1 (ap (λ (r : RestingBlock). r.number) there.is ∙ ap (λ (n : OrderName). n.number) (sym same)))))
