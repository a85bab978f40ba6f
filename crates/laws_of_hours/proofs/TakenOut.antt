-- What is closed or withdrawn rests in no book of its hour.
use Rattle.std.proofs.Common.{◌≡◌, ◌∙◌, inl, inr, ℕ, ◌≤◌, ◌==◌, ◌&&◌, not, Bool, true, false, cond, List, [], ◌∷◌, filter, length, Some, None, nat_eq, eqb-true, refl, sym, ap, subst, if◌then◌else◌, arith}
use Rattle.std.proofs.lemmas.Bool.{le-ltb, true≢false}
use Rattle.std.specs.List.{filter_map}
use Rattle.std.specs.Option.{option_map}
use Rattle.order_kinds.specs.declared.order.OrderName.{OrderName}
use Rattle.order_kinds.specs.Same.{same_name}
use Rattle.zone_graph.specs.Graph.{Graph}
use Rattle.zone_graph.specs.Route.{IsIn}
use Rattle.zone_graph.proofs.Membership.{from_filter}
use Rattle.contract_book.specs.Book.{order_of, without}
use Rattle.contract_book.proofs.BookShapes.{find-no}
use Rattle.block_book.specs.Book as block_books
use Rattle.market_model.specs.declared.event.Event.{Event}
use Rattle.market_model.specs.declared.event.Event.TheVariants as event
use Rattle.market_model.specs.Board.{is_in_hand}
use Rattle.market_model.specs.History.{and_then, enters}
use Rattle.market_model.specs.Orders.{Placed, is_open, left, name_given, open_names, open_order, placed, standing}
use Rattle.laws_of_market.proofs.Members.{from_filter_map}
use Rattle.laws_of_market.proofs.Placed.{picked-same}
use Rattle.laws_of_market.proofs.Tests.{same_name-eq}
use Rattle.laws_of_market.proofs.LocalStates.{is_open-agree}
use Rattle.laws_of_market.proofs.OpenNames.{fewer-quiet, opens-before}
use Rattle.laws_of_market.proofs.Closing.{quiet-one}
use Rattle.laws_of_books.specs.BookOf.{book_of, resting_of}
use Rattle.laws_of_books.proofs.FoundOrders.{order-found}
use Rattle.laws_of_books.proofs.LineOrders.{same_names}
use Rattle.laws_of_books.proofs.TakenOff.{book-withdrawn, left-gone}
use Rattle.laws_of_books.proofs.EnteredAndWithdrawn as blocks
use Rattle.laws_of_books.proofs.BlocksElsewhere as elsewhere
use Rattle.laws_of_hours.proofs.OtherEvents.{others}
use Rattle.laws_of_hours.specs.NextEvents.{IsNext}
use Rattle.laws_of_hours.specs.OrderEvents.{ClosedOrdersAreGone, IsWithdrawn, WithdrawalsAreMade, resting_count}
use Rattle.laws_of_hours.proofs.Entries.{without-absent}
use Rattle.laws_of_hours.proofs.NextEvents.{after, agrees, before, blocks-are, book-is, flows-from, flows-to, next, placed-too}
use Rattle.laws_of_hours.proofs.Numbers.{same-next}

-- ---- lists

pub all-stay : {X : Type 0} (p : X → Bool) (xs : List X) → ((x : X) → IsIn x xs → p x ≡ true) → filter p xs ≡ xs
all-stay p [] all = refl
all-stay p (x ∷ xs) all = rw (all x (inl refl)) (ap (λ ys. x ∷ ys) (all-stay p xs (λ y i. all y (inr i))))

-- no more pass one test than pass two others
fewer-both : {X : Type 0} (p q r : X → Bool) (xs : List X) → ((x : X) → IsIn x xs → p x ≡ true → (q x ≡ true) × (r x ≡ true))
    → length (filter p xs) ≤ length (filter r (filter q xs))
fewer-both p q r [] each = omega arith
fewer-both {X} p q r (x ∷ xs) each = go (fewer-both p q r xs (λ y i. each y (inr i))) (p x) (q x) (r x) refl refl refl
  where
    go : length (filter p xs) ≤ length (filter r (filter q xs)) → (a b c : Bool) → p x ≡ a → q x ≡ b → r x ≡ c
        → length (cond a (x ∷ filter p xs) (filter p xs)) ≤ length (filter r (cond b (x ∷ filter q xs) (filter q xs)))
    go rest true true true i j k = rw k (omega (arith, rest))
    go rest true true false i j k = absurd (true≢false (sym (each x (inl refl) i).1 ∙ k))
    go rest true false c i j k = absurd (true≢false (sym (each x (inl refl) i).0 ∙ j))
    go rest false true true i j k = rw k (omega (arith, rest))
    go rest false true false i j k = rw k rest
    go rest false false c i j k = rest

-- ---- names of an hour

-- a name that an hour has given is of the hour
given-hour : (hour : ℕ) (events : List Event) (name : OrderName) → IsIn name (filter_map (name_given hour) events) → name.hour ≡ hour
given-hour hour events name i =
    let at = from_filter_map (name_given hour) name events i in go at.0 at.2
  where
    by : (given : OrderName) (b : Bool) → nat_eq given.hour hour ≡ b → (if b then Some given else None) ≡ Some name → name.hour ≡ hour
    by given true e is = let same : given ≡ name = cc in ap (λ (n : OrderName). n.hour) (sym same) ∙ eqb-true given.hour hour e
    by given false e is = absurd (cc)

    go : (e : Event) → name_given hour e ≡ Some name → name.hour ≡ hour
    go (event.Entered given caller order) is = by given (nat_eq given.hour hour) refl is
    go (event.EnteredBlock given caller order) is = by given (nat_eq given.hour hour) refl is
    go _ is = absurd (cc)

-- what is open of an hour has not the number of what is closed
beside-closed : (hour : ℕ) (events later : List Event) (number : ℕ) → is_open events (record { hour = hour; number = number }) ≡ false
    → (name : OrderName) → IsIn name (filter_map (name_given hour) later) → is_open events name ≡ true → (name.number == number) ≡ false
beside-closed hour events later number closed name i opened = go (name.number == number) refl
  where
    go : (b : Bool) → (name.number == number) ≡ b → b ≡ false
    go true e =
        let same : name ≡ record { hour = hour; number = number } =
        same_names name (record { hour = hour; number = number }) (given-hour hour later name i) (eqb-true name.number number e) in
        absurd (true≢false (sym opened ∙ ap (is_open events) same ∙ closed))
    go false e = refl

-- ---- what is closed

not-open : (history : List Event) (name : OrderName) → is_open history name ≡ false → open_order history name ≡ None
not-open history name closed =
    find-no (λ (order : Placed). same_name order.name name && is_open history order.name) (placed history) (λ y i. go y (same_name y.name name) refl)
  where
    go : (y : Placed) (b : Bool) → same_name y.name name ≡ b → (b && is_open history y.name) ≡ false
    go y true e = ap (is_open history) (same_name-eq y.name name e) ∙ closed
    go y false e = refl

pub gone : ClosedOrdersAreGone
gone graph hour events number stands closed =
    let name : OrderName = record { hour = hour; number = number } in
    let agree = agrees graph hour events stands in
    let closed_too : is_open stands.history name ≡ false = sym (is_open-agree (hour ∷ []) events stands.history agree name (inl refl)) ∙ closed in
    let none : order_of (book_of stands.history hour) number ≡ None =
    order-found stands.setup stands.history stands.fit name ∙ ap (λ o. option_map resting_of (option_map (standing stands.history) o)) (not-open stands.history name closed_too) in
    record {
      book = without-absent (book_of events hour) number (ap (λ b. order_of b number) (book-is graph hour events stands) ∙ none);
      few = subst (λ xs. length (filter (λ n. not (is_in_hand None n)) (open_names events hour)) ≤ length xs)
          (sym (all-stay (λ n. not (is_in_hand (Some number) n)) (open_names events hour) (λ n i.
          let there = from_filter (is_open events) n (filter_map (name_given hour) events) i in
          ap not (beside-closed hour events events number closed n there.0 there.1))))
          (subst (λ xs. length xs ≤ length (open_names events hour)) (sym (all-stay (λ n. not (is_in_hand None n)) (open_names events hour) (λ n i. refl))) (omega arith));
    }

-- no more rest after an event by which nothing enters
pub few-quiet : (hour : ℕ) (events : List Event) (e : Event) → enters e ≡ false → resting_count (and_then events e) hour None ≤ resting_count events hour None
few-quiet hour events e quiet =
    subst (λ xs. length (filter (λ n. not (is_in_hand None n)) (open_names (and_then events e) hour)) ≤ length xs)
    (sym (all-stay (λ n. not (is_in_hand None n)) (open_names events hour) (λ n i. refl)))
    (subst (λ xs. length xs ≤ length (open_names events hour))
    (sym (all-stay (λ n. not (is_in_hand None n)) (open_names (and_then events e) hour) (λ n i. refl)))
    (fewer-quiet hour events (e ∷ []) (quiet-one e quiet)))

-- ---- withdrawals

module _ (graph : Graph) (events : List Event) (name : OrderName) (lots : ℕ) (own : IsNext graph name.hour events (event.Withdrawn name lots)) where
  abbrev withdrawal : Event
  withdrawal = event.Withdrawn name lots

  is-withdrawn : IsWithdrawn graph name.hour events (and_then events withdrawal) name.number
  is-withdrawn =
      let hour : ℕ = name.hour in
      let old = before graph hour events withdrawal own in
      let new = after graph hour events withdrawal own in
      let book = book-is graph hour events old in
      let blocks_old = blocks-are graph hour events old in
      let blocks_new = blocks-are graph hour (and_then events withdrawal) new in
      record {
        book = book-is graph hour (and_then events withdrawal) new ∙ book-withdrawn own.setup own.history own.fit name lots own.fits
            ∙ ap (λ b. without b name.number) (sym book);
        blocks = blocks_new ∙ blocks.book-withdrawn own.setup own.history own.fit name lots own.fits ∙ ap (λ b. block_books.without b name.number) (sym blocks_old);
        other_blocks = λ order. blocks_new
            ∙ elsewhere.book-elsewhere own.setup own.history own.fit hour withdrawal own.fits (inr (order.0, placed-too graph hour events old order.0 (ap (λ (n : OrderName). n.hour) order.2) order.1, order.2))
            ∙ sym blocks_old;
        flows = λ flows is. flows-from graph hour (and_then events withdrawal) new flows
            (others own.setup graph own.history withdrawal hour flows own.fit own.fits (flows-to graph hour events old flows is) tt);
        few = few-quiet hour events withdrawal refl;
        few_beside = few-beside;
        same_next = same-next hour events withdrawal refl;
      }
    where
      closed : is_open (and_then events withdrawal) name ≡ false
      closed =
          let new = after graph name.hour events withdrawal own in
          is_open-agree (name.hour ∷ []) (and_then events withdrawal) (and_then own.history withdrawal) (agrees graph name.hour (and_then events withdrawal) new) name (inl refl)
          ∙ le-ltb 0 (left (and_then own.history withdrawal) name) (let none = left-gone own.setup own.history own.fit name lots own.fits in omega (arith, none))

      names : List OrderName
      names = filter_map (name_given name.hour) events

      same-names : filter_map (name_given name.hour) (and_then events withdrawal) ≡ names
      same-names = picked-same (name_given name.hour) events withdrawal refl

      few-beside : resting_count (and_then events withdrawal) name.hour None ≤ resting_count events name.hour (Some name.number)
      few-beside =
          subst (λ xs. length xs ≤ resting_count events name.hour (Some name.number))
          (sym (all-stay (λ n. not (is_in_hand None n)) (open_names (and_then events withdrawal) name.hour) (λ n i. refl)))
          (subst (λ xs. length (filter (is_open (and_then events withdrawal)) xs) ≤ resting_count events name.hour (Some name.number)) (sym same-names)
          (fewer-both (is_open (and_then events withdrawal)) (is_open events) (λ n. not (is_in_hand (Some name.number) n)) names (λ n i opened. (
            opens-before events (withdrawal ∷ []) (quiet-one withdrawal refl) n opened,
            ap not (beside-closed name.hour (and_then events withdrawal) events name.number closed n i opened),
          ))))

pub withdrawn : WithdrawalsAreMade
withdrawn graph hour events name lots stands =
    let withdrawal : Event = event.Withdrawn name lots in
    let own = next graph hour events withdrawal stands in
    let in_hour : name.hour ≡ hour = eqb-true name.hour hour own.touched in
    subst (λ h. IsWithdrawn graph h events (and_then events withdrawal) name.number) in_hour
    (is-withdrawn graph events name lots (subst (λ h. IsNext graph h events withdrawal) (sym in_hour) own))
