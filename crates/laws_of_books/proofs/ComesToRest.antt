-- The entry of an order puts its record into the line of its contract and side.
use Rattle.std.proofs.Common.{◌≡◌, ◌≢◌, ◌∙◌, inl, inr, ℕ, ◌+◌, ◌==◌, ◌&&◌, Bool, true, false, List, [], ◌∷◌, Some, length, nat_lt, eq-eqb, refl, sym, ap, subst, if◌then◌else◌, arith}
use Rattle.std.proofs.lemmas.Bool.{and_from, and_parts, lt-ltb, true≢false}
use Rattle.order_kinds.specs.declared.contract.Contract.{Contract}
use Rattle.order_kinds.specs.declared.contract.Part.{Part}
use Rattle.order_kinds.specs.declared.order.Order.{Order}
use Rattle.order_kinds.specs.declared.order.OrderName.{OrderName}
use Rattle.order_kinds.specs.declared.side.Side.{Side}
use Rattle.order_kinds.specs.Contract.{is_known, part_number}
use Rattle.order_kinds.specs.Same.{same_part, same_side}
use Rattle.zone_graph.specs.InOrder.{put_in_order}
use Rattle.zone_graph.specs.Pour.{lots_if}
use Rattle.zone_graph.specs.Route.{IsIn}
use Rattle.zone_graph.proofs.InOrder.{IsIn-put_in_order, from_put_in_order, in_order-one, in_order-put}
use Rattle.zone_graph.proofs.Membership.{IsIn-right}
use Rattle.contract_book.specs.declared.resting.Resting.{Resting}
use Rattle.contract_book.specs.Book.{with_order}
use Rattle.contract_book.specs.Resting.{resting_cmp}
use Rattle.market_model.specs.declared.event.Event.{Event}
use Rattle.market_model.specs.declared.event.Event.TheVariants as event
use Rattle.market_model.specs.declared.setup.Setup.{Setup}
use Rattle.market_model.specs.History.{and_then, of_hour}
use Rattle.market_model.specs.Orders.{Placed, entered_by, filled, is_open, left, moment, placed, placed_by, standing}
use Rattle.market_model.specs.WellFormed.{FitAfter, Fits}
use Rattle.laws_of_market.proofs.Lines.{same_contract-refl, same_side-refl}
use Rattle.laws_of_market.proofs.Members.{IsIn-filter_map}
use Rattle.laws_of_market.proofs.Names.{names-once, order_name-new}
use Rattle.laws_of_market.proofs.Placed.{from_picked-more}
use Rattle.laws_of_market.proofs.Prices.{price-entered}
use Rattle.laws_of_market.proofs.Repeats.{fit-more}
use Rattle.laws_of_market.proofs.Soundness.{lots_in_range-bounds, order_fault-none}
use Rattle.laws_of_market.proofs.States.{entered-more, filled-more, taken_off-more}
use Rattle.laws_of_market.proofs.Tests.{same_name-refl, same_part-eq, same_side-eq}
use Rattle.laws_of_market.proofs.Wholes.{new-untouched, other_name}
use Rattle.laws_of_market.proofs.LocalMoments.{moment-more}
use Rattle.laws_of_books.specs.BookOf.{book_of, contract_of, entered_resting, next_moment, resting_line, resting_of}
use Rattle.laws_of_books.proofs.Elsewhere.{named}
use Rattle.laws_of_books.proofs.LineOrders.{StandsIn, entered-other, from_resting, in_resting, resting-apart, resting-strict, resting_weak, same_names}
use Rattle.laws_of_books.proofs.PartLines.{book_by-same, line_put, with_order-by}
use Rattle.laws_of_books.proofs.Untouched.{standing_at, there-after, there-before}

module _ (setup : Setup) (events : List Event) (fit : FitAfter setup [] events) (name : OrderName) (caller : ℕ) (order : Order)
    (fits : Fits setup events (event.Entered name caller order)) where
  abbrev entry : Event
  entry = event.Entered name caller order

  abbrev after : List Event
  after = and_then events entry

  abbrev new : Placed
  new = record { name = name; caller = caller; order = order }

  abbrev at_rest : Resting
  at_rest = entered_resting name caller order (next_moment events order.contract.hour)

  in_its_hour : name.hour ≡ order.contract.hour
  in_its_hour = ap (λ (n : OrderName). n.hour) fits.named

  -- nothing of it is filled, and all of it is left
  filled-new : filled after name ≡ 0
  filled-new =
      let none = new-untouched setup events fit name (order_name-new setup events name caller order (names-once setup events fit) fits) in
      let more = filled-more events entry name in
      omega (arith, more, none.1)

  left-new : left after name ≡ order.quantity.0
  left-new =
      let none = new-untouched setup events fit name (order_name-new setup events name caller order (names-once setup events fit) fits) in
      let own : entered_by name entry ≡ order.quantity.0 = ap (λ b. lots_if b order.quantity.0) (same_name-refl name) in
      rw (entered-more events entry name, filled-more events entry name, taken_off-more events entry name, own) (omega arith)

  moment-new : moment after new ≡ next_moment events order.contract.hour
  moment-new =
      moment-more order.contract.hour events entry new (eq-eqb name.hour order.contract.hour in_its_hour) in_its_hour
      ∙ ap (λ b. if b then length (of_hour order.contract.hour events) + 1 else moment events new) (same_name-refl name)

  -- so this is its record
  record-new : resting_of (standing after new) ≡ at_rest
  record-new =
      ap (λ f. resting_of (standing_at new f (left after name) (moment after new))) filled-new
      ∙ ap (λ l. resting_of (standing_at new 0 l (moment after new))) left-new
      ∙ ap (λ m. resting_of (standing_at new 0 order.quantity.0 m)) moment-new
      ∙ ap (λ p. record at_rest { price = p }) (price-entered order)

  is_new : (other : Placed) → IsIn other (placed events) → name ≢ other.name
  is_new other there = entered-other setup events fit name (order_name-new setup events name caller order (names-once setup events fit) fits) other there

  open-new : is_open after name ≡ true
  open-new =
      let some = (lots_in_range-bounds order.quantity (order_fault-none order fits.sound).quantity).0 in
      ap (nat_lt 0) left-new ∙ lt-ltb 0 order.quantity.0 some

  stands-new : StandsIn after order.contract order.side at_rest
  stands-new = record {
    order = new;
    is_placed = IsIn-filter_map placed_by entry new after (IsIn-right entry events (entry ∷ []) (inl refl)) refl;
    is_left = open-new;
    of_contract = refl;
    on_side = refl;
    is = sym record-new;
  }

  was_new : (other : Placed) → placed_by entry ≡ Some other → new ≡ other
  was_new other is = cc

  apart-new : (other : Resting) → IsIn other (resting_line events order.contract order.side) → name.number ≢ other.number
  apart-new other i same =
      let there = from_resting events order.contract order.side other i in
      let hours : name.hour ≡ there.order.name.hour =
      in_its_hour ∙ sym (named setup events fit there.order there.is_placed ∙ ap (λ (c : Contract). c.hour) there.of_contract) in
      is_new there.order there.is_placed (same_names name there.order.name hours (same ∙ ap (λ (r : Resting). r.number) there.is))

  -- the line of its contract and side
  line-here : resting_line after order.contract order.side ≡ put_in_order (resting_cmp order.side) (resting_line events order.contract order.side) at_rest
  line-here =
      let side : Side = order.side in
      let before : List Resting = resting_line events order.contract side in
      in_order-one (resting_cmp side) (resting_weak side) (resting_line after order.contract side) (put_in_order (resting_cmp side) before at_rest)
      (resting-strict setup after (fit-more setup events entry fit fits) order.contract side)
      (in_order-put (resting_cmp side) (resting_weak side) before at_rest (resting-strict setup events fit order.contract side)
      (λ other i not_before. resting-apart side at_rest other (apart-new other i) not_before))
      (λ x i.
      let there = from_resting after order.contract side x i in
      elim (from_picked-more placed_by there.order events entry there.is_placed) [
        | inl old ↦ IsIn-put_in_order (resting_cmp side) x before at_rest (inr (in_resting events order.contract side x
            (there-before events entry order.contract side x there old (other_name name there.order.name (is_new there.order old)))))
        | inr is ↦ IsIn-put_in_order (resting_cmp side) x before at_rest (inl (there.is ∙ ap (λ p. resting_of (standing after p)) (sym (was_new there.order is)) ∙ record-new))
      ])
      (λ x i. elim (from_put_in_order (resting_cmp side) x before at_rest i) [
        | inl is ↦ in_resting after order.contract side x (subst (StandsIn after order.contract side) (sym is) stands-new)
        | inr old ↦
            let there = from_resting events order.contract side x old in
            in_resting after order.contract side x (there-after events entry order.contract side x there (other_name name there.order.name (is_new there.order there.is_placed)))
      ])

  -- and any other
  line-there : (contract : Contract) (side : Side) → (order.contract ≡ contract → order.side ≡ side → ⊥)
      → resting_line after contract side ≡ resting_line events contract side
  line-there contract side elsewhere =
      in_order-one (resting_cmp side) (resting_weak side) (resting_line after contract side) (resting_line events contract side)
      (resting-strict setup after (fit-more setup events entry fit fits) contract side) (resting-strict setup events fit contract side)
      (λ x i.
      let there = from_resting after contract side x i in
      elim (from_picked-more placed_by there.order events entry there.is_placed) [
        | inl old ↦ in_resting events contract side x (there-before events entry contract side x there old (other_name name there.order.name (is_new there.order old)))
        | inr is ↦
            let same = was_new there.order is in
            absurd (elsewhere (ap (λ (p : Placed). p.order.contract) same ∙ there.of_contract) (ap (λ (p : Placed). p.order.side) same ∙ there.on_side))
      ])
      (λ x i.
      let there = from_resting events contract side x i in
      in_resting after contract side x (there-after events entry contract side x there (other_name name there.order.name (is_new there.order there.is_placed))))

  -- so the book is the one with the order
  pub book-entered : book_of after order.contract.hour ≡ with_order (book_of events order.contract.hour) (part_number order.contract.part) at_rest
  unfolding book_of
  book-entered =
      book_by-same (λ p s. resting_line after (contract_of hour p) s) (line_put lines part order.side line) each
      ∙ sym (with_order-by lines part at_rest fits.in_part)
    where
      hour : ℕ
      hour = order.contract.hour

      part : Part
      part = order.contract.part

      lines : Part → Side → List Resting
      lines p s = resting_line events (contract_of hour p) s

      line : List Resting
      line = put_in_order (resting_cmp order.side) (lines part order.side) at_rest

      each : (p : Part) (s : Side) → is_known p ≡ true → resting_line after (contract_of hour p) s ≡ line_put lines part order.side line p s
      each p s known = go (same_part p part && same_side s order.side) refl
        where
          go : (b : Bool) → (same_part p part && same_side s order.side) ≡ b → resting_line after (contract_of hour p) s ≡ (if b then line else lines p s)
          go true e =
              let both = and_parts (same_part p part) (same_side s order.side) e in
              ap (λ q. resting_line after (contract_of hour q) s) (same_part-eq p part both.0)
              ∙ ap (λ t. resting_line after (contract_of hour part) t) (same_side-eq s order.side both.1)
              ∙ line-here
          go false e = line-there (contract_of hour p) s (λ same_c same_s.
              let parts : same_part part part ≡ true = (and_parts (hour == hour) (same_part part part) (same_contract-refl order.contract)).1 in
              let own : same_part p part ≡ true = ap (λ (c : Contract). same_part c.part part) (sym same_c) ∙ parts in
              let sides : same_side s order.side ≡ true = ap (λ t. same_side t order.side) (sym same_s) ∙ same_side-refl order.side in
              true≢false (sym (and_from (same_part p part) (same_side s order.side) own sides) ∙ e))
