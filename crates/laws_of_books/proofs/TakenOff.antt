-- What a withdrawal and a reduction make of the book of an hour.
use Rattle.std.proofs.Common.{◌≡◌, ◌∙◌, inl, inr, ℕ, ◌-◌, ◌<◌, true, List, [], ◌∷◌, Some, None, refl, sym, ap, subst, arith}
use Rattle.std.proofs.lemmas.Bool.{lt-ltb, ltb-true}
use Rattle.order_kinds.specs.declared.order.OrderName.{OrderName}
use Rattle.zone_graph.specs.Pour.{lots_if}
use Rattle.zone_graph.specs.Route.{IsIn}
use Rattle.contract_book.specs.declared.resting.Resting.{Resting}
use Rattle.contract_book.specs.Book.{order_of, reduced, without}
use Rattle.contract_book.specs.Resting.{order_less}
use Rattle.contract_book.proofs.Told.{reduced-is}
use Rattle.market_model.specs.declared.event.Event.{Event}
use Rattle.market_model.specs.declared.event.Event.TheVariants as event
use Rattle.market_model.specs.declared.setup.Setup.{Setup}
use Rattle.market_model.specs.History.{and_then}
use Rattle.market_model.specs.Orders.{Placed, filled, is_open, left, moment, placed, shown_lots, standing, taken_off_by}
use Rattle.market_model.specs.WellFormed.{FitAfter, Fits}
use Rattle.laws_of_market.proofs.Names.{names-once}
use Rattle.laws_of_market.proofs.Placed.{all_are_sound}
use Rattle.laws_of_market.proofs.States.{filled-more, left-more}
use Rattle.laws_of_market.proofs.Tests.{same_name-refl}
use Rattle.laws_of_market.proofs.Unique.{one_order}
use Rattle.laws_of_market.proofs.Wholes.{other_name}
use Rattle.laws_of_books.specs.BookOf.{book_of, contract_of, resting_line, resting_of}
use Rattle.laws_of_books.proofs.ChangedOrders.{AreChanges, book-changed, only-record}
use Rattle.laws_of_books.proofs.Elsewhere.{named}
use Rattle.laws_of_books.proofs.LineOrders.{in_resting, same_names}
use Rattle.laws_of_books.proofs.PartLines.{order_of-by}
use Rattle.laws_of_books.proofs.Untouched.{moment-kept, standing_at}
use Rattle.laws_of_books.proofs.Updates.{Change}

-- an open order is found in the book of its hour
pub order_of-open : (setup : Setup) (events : List Event) → FitAfter setup [] events → (order : Placed) → IsIn order (placed events)
    → is_open events order.name ≡ true
    → order_of (book_of events order.name.hour) order.name.number ≡ Some (resting_of (standing events order))
unfolding book_of
order_of-open setup events fit order there opened =
    order_of-by (λ p s. resting_line events (contract_of hour p) s) order.name.number (resting_of (standing events order)) order.order.contract.part order.order.side
    ((all_are_sound setup events fit).orders order there).in_part
    (in_resting events (contract_of hour order.order.contract.part) order.order.side (resting_of (standing events order)) (record {
      order = order;
      is_placed = there;
      is_left = opened;
      of_contract = ap (λ h. record { hour = h; part = order.order.contract.part }) (sym (named setup events fit order there));
      on_side = refl;
      is = refl;
    }))
    refl
    (λ p s other known i is. only-record setup events fit (contract_of hour p) s other order there refl i is)
  where
    hour : ℕ
    hour = order.name.hour

module _ (setup : Setup) (events : List Event) (fit : FitAfter setup [] events) (name : OrderName) where
  -- an order of this name, and one of another
  same_of : (order : Placed) → order.name.hour ≡ name.hour → order.name.number ≡ name.number → order.name ≡ name
  same_of order hours numbers = same_names order.name name hours numbers

  -- the order that is withdrawn is open no more
  module _ (lots : ℕ) (fits : Fits setup events (event.Withdrawn name lots)) where
    abbrev withdrawal : Event
    withdrawal = event.Withdrawn name lots

    abbrev gone : Change
    gone = record { number = name.number; next = None }

    -- nothing of it is left
    pub left-gone : left (and_then events withdrawal) name ≡ 0
    left-gone =
        let less = left-more events withdrawal name refl in
        let own : taken_off_by name withdrawal ≡ lots = ap (λ b. lots_if b lots) (same_name-refl name) in
        let all = fits.all_left in
        omega (arith, less, own, all)

    closed : (order : Placed) → order.name.hour ≡ name.hour → order.name.number ≡ name.number → is_open (and_then events withdrawal) order.name ≡ true → ⊥
    closed order hours numbers opened =
        let is : is_open (and_then events withdrawal) name ≡ true =
        subst (λ n. is_open (and_then events withdrawal) n ≡ true) (same_of order hours numbers) opened in
        let some = ltb-true 0 (left (and_then events withdrawal) name) is in
        let none = left-gone in
        omega (arith, some, none)

    are-gone : AreChanges events withdrawal name.hour (gone ∷ [])
    are-gone = record {
      none_enters = refl;
      numbers =
          λ change i next is. elim i [ inl same ↦ absurd (let none : None ≡ Some next = ap (λ (c : Change). c.next) (sym same) ∙ is in cc) | inr j ↦ absurd j ];
      differ = (λ other i. absurd i, tt);
      others = λ order there hours none. other_name name order.name (λ same. none gone (inl refl) (ap (λ (n : OrderName). n.number) (sym same)));
      stays = λ change i order there hours numbers opened. elim i [
        | inl same ↦ absurd (closed order hours (numbers ∙ ap (λ (c : Change). c.number) same) opened)
        | inr j ↦ absurd j
      ];
      comes = λ change i order there hours numbers was next is. elim i [
        | inl same ↦ absurd (let none : None ≡ Some next = ap (λ (c : Change). c.next) (sym same) ∙ is in cc)
        | inr j ↦ absurd j
      ];
    }

    pub book-withdrawn : book_of (and_then events withdrawal) name.hour ≡ without (book_of events name.hour) name.number
    unfolding book_of
    book-withdrawn = book-changed setup events fit withdrawal fits name.hour (gone ∷ []) are-gone

  -- the order that is reduced has so much less
  module _ (by : ℕ) (fits : Fits setup events (event.Reduced name by)) where
    abbrev reduction : Event
    reduction = event.Reduced name by

    abbrev order : Placed
    order = fits.order

    abbrev lessened : Resting
    lessened = order_less (resting_of (standing events order)) by

    abbrev less_change : Change
    less_change = record { number = name.number; next = Some lessened }

    is_named : order.name ≡ name
    is_named = fits.order_open.is_named

    left-less : left (and_then events reduction) order.name ≡ left events order.name - by
    left-less =
        let less = left-more events reduction order.name refl in
        let own : taken_off_by order.name reduction ≡ by =
        subst (λ n. taken_off_by n reduction ≡ by) (sym is_named) (ap (λ b. lots_if b by) (same_name-refl name)) in
        omega (arith, less, own)

    filled-less : filled (and_then events reduction) order.name ≡ filled events order.name
    filled-less = let more = filled-more events reduction order.name in omega (arith, more)

    open-less : is_open (and_then events reduction) order.name ≡ true
    open-less =
        let less = left-less in
        let rest : by < left events order.name = subst (λ n. by < left events n) (sym is_named) fits.less in
        lt-ltb 0 (left (and_then events reduction) order.name) (omega (arith, less, rest))

    record-less : resting_of (standing (and_then events reduction) order) ≡ lessened
    record-less =
        ap (λ f. resting_of (standing_at order f (left (and_then events reduction) order.name) (moment (and_then events reduction) order))) filled-less
        ∙ ap (λ l. resting_of (standing_at order (filled events order.name) l (moment (and_then events reduction) order))) left-less
        ∙ ap (λ m. resting_of (standing_at order (filled events order.name) (left events order.name - by) m)) (moment-kept events reduction order refl)
        ∙ ap (λ n. record lessened { shown = n }) shows
      where
        shows : shown_lots order.order.kind (filled events order.name) (left events order.name - by) ≡ left events order.name - by
        shows = ap (λ k. shown_lots k (filled events order.name) (left events order.name - by)) fits.is_limit

    is_order : (other : Placed) → IsIn other (placed events) → other.name.hour ≡ name.hour → other.name.number ≡ name.number → order ≡ other
    is_order other there hours numbers =
        one_order events (names-once setup events fit) order other fits.order_open.is_placed there (is_named ∙ sym (same_of other hours numbers))

    open-before : is_open events order.name ≡ true
    open-before = subst (λ n. is_open events n ≡ true) (sym is_named) fits.order_open.is_left

    are-less : AreChanges events reduction name.hour (less_change ∷ [])
    are-less = record {
      none_enters = refl;
      numbers = λ change i next is. elim i [
        | inl same ↦
            let both : Some lessened ≡ Some next = ap (λ (c : Change). c.next) (sym same) ∙ is in
            let own : lessened ≡ next = cc in
            ap (λ (r : Resting). r.number) (sym own) ∙ ap (λ (n : OrderName). n.number) is_named ∙ ap (λ (c : Change). c.number) (sym same)
        | inr j ↦ absurd j
      ];
      differ = (λ other i. absurd i, tt);
      others = λ other there hours none. other_name name other.name (λ same. none less_change (inl refl) (ap (λ (n : OrderName). n.number) (sym same)));
      stays = λ change i other there hours numbers opened. elim i [
        | inl same ↦
            let is = is_order other there hours (numbers ∙ ap (λ (c : Change). c.number) same) in (
              subst (λ (p : Placed). is_open events p.name ≡ true) is open-before,
              ap (λ (c : Change). c.next) same ∙ ap Some (sym record-less) ∙ ap (λ p. Some (resting_of (standing (and_then events reduction) p))) is,
            )
        | inr j ↦ absurd j
      ];
      comes = λ change i other there hours numbers was next given. elim i [
        | inl same ↦
            let is = is_order other there hours (numbers ∙ ap (λ (c : Change). c.number) same) in
            let both : Some lessened ≡ Some next = ap (λ (c : Change). c.next) (sym same) ∙ given in
            let own : lessened ≡ next = cc in (
              subst (λ (p : Placed). is_open (and_then events reduction) p.name ≡ true) is open-less,
              sym own ∙ sym record-less ∙ ap (λ p. resting_of (standing (and_then events reduction) p)) is,
            )
        | inr j ↦ absurd j
      ];
    }

    found-less : order_of (book_of events name.hour) name.number ≡ Some (resting_of (standing events order))
    found-less =
        subst (λ (n : OrderName). order_of (book_of events n.hour) n.number ≡ Some (resting_of (standing events order))) is_named
        (order_of-open setup events fit order fits.order_open.is_placed open-before)

    pub book-reduced : book_of (and_then events reduction) name.hour ≡ reduced (book_of events name.hour) name.number by
    unfolding book_of
    book-reduced =
        book-changed setup events fit reduction fits name.hour (less_change ∷ []) are-less
        ∙ sym (reduced-is (book_of events name.hour) name.number (resting_of (standing events order)) found-less by)
