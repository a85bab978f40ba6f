-- An event that changes the records of some orders of an hour changes their lines in no other way.
use Rattle.std.proofs.Common.{◌≡◌, ◌≢◌, ◌∙◌, ◌⊎◌, inl, inr, ℕ, true, false, List, [], ◌∷◌, Some, None, refl, sym, ap, subst}
use Rattle.std.proofs.lemmas.Bool.{cases_eq}
use Rattle.order_kinds.specs.declared.contract.Contract.{Contract}
use Rattle.order_kinds.specs.declared.side.Side.{Side}
use Rattle.zone_graph.specs.Route.{IsIn}
use Rattle.zone_graph.proofs.InOrder.{in_order-one}
use Rattle.contract_book.specs.declared.resting.Resting.{Resting}
use Rattle.contract_book.specs.Resting.{resting_cmp}
use Rattle.market_model.specs.declared.event.Event.{Event}
use Rattle.market_model.specs.declared.setup.Setup.{Setup}
use Rattle.market_model.specs.History.{and_then}
use Rattle.market_model.specs.Orders.{Placed, is_open, placed, placed_by, standing}
use Rattle.market_model.specs.WellFormed.{FitAfter, Fits}
use Rattle.laws_of_market.proofs.Names.{names-once}
use Rattle.laws_of_market.proofs.Placed.{picked-same, picked-stays}
use Rattle.laws_of_market.proofs.Repeats.{fit-more}
use Rattle.laws_of_market.proofs.Unique.{one_order}
use Rattle.laws_of_books.specs.BookOf.{book_by, book_of, contract_of, resting_line, resting_of}
use Rattle.laws_of_books.proofs.Elsewhere.{named}
use Rattle.laws_of_books.proofs.LineOrders.{from_resting, in_resting, resting-strict, resting_weak, same_names}
use Rattle.laws_of_books.proofs.PartLines.{book_by-same}
use Rattle.laws_of_books.proofs.Untouched.{concerns, there-after, there-before}
use Rattle.laws_of_books.proofs.Updates.{AreAfter, AreOfNumbers, Change, NumbersDiffer, all-strict, from_all, from_stands, in_all, is-stands, lines_after, stands}

-- some changes are what an event makes of the orders of an hour: it concerns no order of another
-- number; an order of one of these numbers that is open afterwards was open before, and the change
-- brings its record
pub record AreChanges (events : List Event) (e : Event) (hour : ℕ) (changes : List Change) : Type 0 where
  pub none_enters : placed_by e ≡ None
  pub numbers : AreOfNumbers changes
  pub differ : NumbersDiffer changes
  pub others : (order : Placed) → IsIn order (placed events) → order.name.hour ≡ hour
      → ((change : Change) → IsIn change changes → order.name.number ≢ change.number) → concerns order.name e ≡ false
  pub stays : (change : Change) → IsIn change changes → (order : Placed) → IsIn order (placed events) → order.name.hour ≡ hour
      → order.name.number ≡ change.number
      → is_open (and_then events e) order.name ≡ true
      → (is_open events order.name ≡ true) × (change.next ≡ Some (resting_of (standing (and_then events e) order)))
  pub comes : (change : Change) → IsIn change changes → (order : Placed) → IsIn order (placed events) → order.name.hour ≡ hour
      → order.name.number ≡ change.number
      → is_open events order.name ≡ true → (next : Resting) → change.next ≡ Some next
      → (is_open (and_then events e) order.name ≡ true) × (next ≡ resting_of (standing (and_then events e) order))

-- a number is that of a change, or of none
changed-or_not : (changes : List Change) (number : ℕ)
    → ((change : Change) × IsIn change changes × (number ≡ change.number)) ⊎ ((change : Change) → IsIn change changes → number ≢ change.number)
changed-or_not [] number = inr (λ change i. absurd i)
changed-or_not (change ∷ changes) number = elim (cases_eq number change.number) [
  | inl same ↦ inl (change, inl refl, same)
  | inr differs ↦ elim (changed-or_not changes number) [
    | inl later ↦ inl (later.0, inr later.1, later.2)
    | inr none ↦ inr (λ other i. elim i [ inl same ↦ λ e. differs (e ∙ ap (λ (c : Change). c.number) same) | inr j ↦ none other j ])
  ]
]

module _ (setup : Setup) (events : List Event) (fit : FitAfter setup [] events) where
  -- an order of a line is of its hour
  pub hour_of : (contract : Contract) (order : Placed) → IsIn order (placed events) → order.order.contract ≡ contract → order.name.hour ≡ contract.hour
  hour_of contract order there of_contract = named setup events fit order there ∙ ap (λ (c : Contract). c.hour) of_contract

  -- an order of an hour has its number alone in the hour's lines
  pub only-record : (contract : Contract) (side : Side) (x : Resting) (order : Placed) → IsIn order (placed events) → order.name.hour ≡ contract.hour
      → IsIn x (resting_line events contract side) → x.number ≡ order.name.number → x ≡ resting_of (standing events order)
  only-record contract side x order order_there of_hour i is =
      let there = from_resting events contract side x i in
      let same : there.order ≡ order =
      one_order events (names-once setup events fit) there.order order there.is_placed order_there
      (same_names there.order.name order.name (hour_of contract there.order there.is_placed there.of_contract ∙ sym of_hour)
      (sym (ap (λ (r : Resting). r.number) there.is) ∙ is)) in
      there.is ∙ ap (λ p. resting_of (standing events p)) same

  module _ (e : Event) (fits : Fits setup events e) (hour : ℕ) (changes : List Change) (are : AreChanges events e hour changes) where
    abbrev after : List Event
    after = and_then events e

    was_placed : (order : Placed) → IsIn order (placed after) → IsIn order (placed events)
    was_placed order i = subst (IsIn order) (picked-same placed_by events e are.none_enters) i

    -- what stands in a line afterwards
    line-after : (contract : Contract) (side : Side) → contract.hour ≡ hour → (x : Resting) → IsIn x (resting_line after contract side)
        → AreAfter changes (resting_line events contract side) x
    line-after contract side of_hour x i =
        let there = from_resting after contract side x i in
        let order : Placed = there.order in
        let old = was_placed order there.is_placed in
        let in_hour : order.name.hour ≡ hour = hour_of contract order old there.of_contract ∙ of_hour in
        elim (changed-or_not changes order.name.number) [
          | inl found ↦
              let kept = are.stays found.0 found.1 order old in_hour found.2 there.is_left in
              let was : IsIn (resting_of (standing events order)) (resting_line events contract side) =
              in_resting events contract side (resting_of (standing events order))
              (record { order = order; is_placed = old; is_left = kept.0; of_contract = there.of_contract; on_side = there.on_side; is = refl }) in
              inr (record {
                change = found.0;
                is_change = found.1;
                stood = is-stands found.0.number (resting_line events contract side) (resting_of (standing events order)) was found.2;
                is = kept.1 ∙ ap Some (sym there.is);
              })
          | inr none ↦ inl (
            in_resting events contract side x (there-before events e contract side x there old (are.others order old in_hour none)),
            λ change j same. none change j (sym (ap (λ (r : Resting). r.number) there.is) ∙ same),
          )
        ]

    line-before : (contract : Contract) (side : Side) → contract.hour ≡ hour → (x : Resting) → AreAfter changes (resting_line events contract side) x
        → IsIn x (resting_line after contract side)
    line-before contract side of_hour x (inl old) =
        let there = from_resting events contract side x old.0 in
        let in_hour : there.order.name.hour ≡ hour = hour_of contract there.order there.is_placed there.of_contract ∙ of_hour in
        in_resting after contract side x (there-after events e contract side x there (are.others there.order there.is_placed in_hour
        (λ change j same. old.1 change j (ap (λ (r : Resting). r.number) there.is ∙ same))))
    line-before contract side of_hour x (inr new) =
        let stood = from_stands new.change.number (resting_line events contract side) new.stood in
        let there = from_resting events contract side stood.0 stood.1 in
        let in_hour : there.order.name.hour ≡ hour = hour_of contract there.order there.is_placed there.of_contract ∙ of_hour in
        let now = are.comes new.change new.is_change there.order there.is_placed in_hour (sym (ap (λ (r : Resting). r.number) there.is) ∙ stood.2) there.is_left x new.is in
        in_resting after contract side x (record {
          order = there.order;
          is_placed = picked-stays placed_by there.order events (e ∷ []) there.is_placed;
          is_left = now.0;
          of_contract = there.of_contract;
          on_side = there.on_side;
          is = now.1;
        })

    -- a new record is of the side of the line
    pub changes-sided : (contract : Contract) (side : Side) → contract.hour ≡ hour → (change : Change) → IsIn change changes → (next : Resting)
        → change.next ≡ Some next
        → stands change.number (resting_line events contract side) ≡ true → next.side ≡ side
    changes-sided contract side of_hour change i next is stood_there =
        let stood = from_stands change.number (resting_line events contract side) stood_there in
        let there = from_resting events contract side stood.0 stood.1 in
        let in_hour : there.order.name.hour ≡ hour = hour_of contract there.order there.is_placed there.of_contract ∙ of_hour in
        let now = are.comes change i there.order there.is_placed in_hour (sym (ap (λ (r : Resting). r.number) there.is) ∙ stood.2) there.is_left next is in
        ap (λ (r : Resting). r.side) now.1 ∙ there.on_side

    pub line-changed : (contract : Contract) (side : Side) → contract.hour ≡ hour
        → resting_line after contract side ≡ lines_after changes (resting_line events contract side)
    line-changed contract side of_hour =
        in_order-one (resting_cmp side) (resting_weak side) (resting_line after contract side) (lines_after changes (resting_line events contract side))
        (resting-strict setup after (fit-more setup events e fit fits) contract side)
        (all-strict side changes (resting_line events contract side) are.numbers are.differ (changes-sided contract side of_hour) (resting-strict setup events fit contract side))
        (λ x i. in_all changes (resting_line events contract side) x are.numbers are.differ (line-after contract side of_hour x i))
        (λ x i. line-before contract side of_hour x (from_all changes (resting_line events contract side) x are.numbers are.differ i))

    pub book-changed : book_of after hour ≡ book_by (λ p s. lines_after changes (resting_line events (contract_of hour p) s))
    unfolding book_of
    book-changed =
        book_by-same (λ p s. resting_line after (contract_of hour p) s) (λ p s. lines_after changes (resting_line events (contract_of hour p) s))
        (λ p s known. line-changed (contract_of hour p) s refl)
