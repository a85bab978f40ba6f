-- An order that enters is in hand: without it the book of its hour is as before.
use Rattle.std.proofs.Common.{◌≡◌, ◌≢◌, ◌∙◌, inl, ℕ, zero, suc, ◌≤◌, ◌&&◌, not, Bool, true, false, cond, List, [], ◌∷◌, ◌++◌, filter, length, get_or, Some, None, nat_eq, eq-eqb, eqb-true, refl, sym, ap, subst, if◌then◌else◌, arith}
use Rattle.std.proofs.lemmas.Bool.{lt-ltb, ltb-true}
use Rattle.std.proofs.lemmas.List.{append-nil}
use Rattle.std.proofs.lemmas.List.Elements.{filter-append, filter_map-append}
use Rattle.std.proofs.Math.Seq.{map-set_same}
use Rattle.std.specs.List.{cons_option, filter_map}
use Rattle.std.specs.Option.{option_map}
use Rattle.std.specs.Ordering.{is_lt}
use Rattle.order_kinds.specs.declared.order.Order.{Order}
use Rattle.order_kinds.specs.declared.order.OrderName.{OrderName}
use Rattle.order_kinds.specs.Contract.{part_number}
use Rattle.order_kinds.specs.Same.{same_name}
use Rattle.zone_graph.specs.Graph.{Graph}
use Rattle.zone_graph.specs.InOrder.{put_in_order}
use Rattle.zone_graph.specs.Route.{IsIn}
use Rattle.zone_graph.proofs.Finding.{find-none}
use Rattle.zone_graph.proofs.Membership.{IsIn-left, IsIn-right}
use Rattle.contract_book.specs.declared.resting.Resting.{Resting}
use Rattle.contract_book.specs.Book.{has_number, line_number, line_of, line_without, order_of, with_order, without}
use Rattle.contract_book.specs.Resting.{resting_cmp}
use Rattle.contract_book.proofs.BookShapes.{any-no, find-no, has-number, without-none}
use Rattle.market_model.specs.declared.event.Event.{Event}
use Rattle.market_model.specs.declared.event.Event.TheVariants as event
use Rattle.market_model.specs.declared.setup.Setup.{Setup}
use Rattle.market_model.specs.Board.{is_in_hand}
use Rattle.market_model.specs.History.{and_then}
use Rattle.market_model.specs.Orders.{Placed, is_open, left, name_given, open_names, open_order, placed, standing}
use Rattle.market_model.specs.WellFormed.{FitAfter, Fits, OrderEnters}
use Rattle.laws_of_market.proofs.Counts.{fewer-le}
use Rattle.laws_of_market.proofs.Names.{names-once, order_name-new}
use Rattle.laws_of_market.proofs.States.{left-more}
use Rattle.laws_of_market.proofs.Wholes.{other_name}
use Rattle.laws_of_market.proofs.LocalAnswers.{open_names-agree}
use Rattle.laws_of_market.proofs.LocalStates.{next_name-agree}
use Rattle.laws_of_market.proofs.OpenNames.{IsEntry, order-entry}
use Rattle.laws_of_books.specs.BookOf.{book_of, resting_of}
use Rattle.laws_of_books.proofs.ComesToRest.{book-entered}
use Rattle.laws_of_books.proofs.FoundOrders.{order-found}
use Rattle.laws_of_books.proofs.LineOrders.{entered-other}
use Rattle.laws_of_books.proofs.BlocksElsewhere as blocks
use Rattle.laws_of_hours.proofs.OtherEvents.{others}
use Rattle.laws_of_hours.specs.NextEvents.{IsNext}
use Rattle.laws_of_hours.specs.OrderEvents.{IsInHand, OrdersEnterInHand, resting_count}
use Rattle.laws_of_hours.proofs.NextEvents.{after, agrees, before, blocks-are, book-is, flows-from, flows-to, next}
use Rattle.laws_of_hours.proofs.OrderlyBooks.{filter-put, orders_in}

-- what is in a line of a book is in the book
pub in-orders : (book : List (List Resting)) (place : ℕ) (order : Resting) → IsIn order (get_or book place []) → IsIn order (orders_in book)
in-orders [] place order i = absurd i
in-orders (line ∷ book) zero order i = IsIn-left order line (orders_in book) i
in-orders (line ∷ book) (suc place) order i = IsIn-right order line (orders_in book) (in-orders book place order i)

-- a book without an order that it does not have
pub without-absent : (book : List (List Resting)) (number : ℕ) → order_of book number ≡ None → without book number ≡ book
without-absent book number none =
    without-none book number (λ i low.
    any-no (has_number number) (get_or book i []) (λ y j. find-none (has_number number) (orders_in book) none y (in-orders book i y j)))

-- without an order that came to rest a book is as before
pub without-put : (book : List (List Resting)) (part : ℕ) (order : Resting) → order_of book order.number ≡ None
    → without (with_order book part order) order.number ≡ book
without-put book part order none =
    map-set_same (line_without order.number) book (line_number part order.side)
    (put_in_order (resting_cmp order.side) (line_of book part order.side) order) []
    (filter-put (λ other. not (has_number order.number other)) (λ x y. is_lt (resting_cmp order.side x y)) (put_in_order (resting_cmp order.side)) order
    (ap not (has-number order order.number refl)) refl (λ y ys. refl) (line_of book part order.side))
    ∙ without-absent book order.number none

shorter : {X : Type 0} (p : X → Bool) (xs : List X) → length (filter p xs) ≤ length xs
shorter p [] = omega arith
shorter {X} p (x ∷ xs) = go (p x) (shorter p xs)
  where
    go : (b : Bool) → length (filter p xs) ≤ length xs → length (cond b (x ∷ filter p xs) (filter p xs)) ≤ length (x ∷ xs)
    go true rest = omega (arith, rest)
    go false rest = omega (arith, rest)

module _ (setup : Setup) (history : List Event) (fit : FitAfter setup [] history) (name : OrderName) (caller : ℕ) (order : Order)
    (fits : Fits setup history (event.Entered name caller order)) where
  abbrev entry : Event
  entry = event.Entered name caller order

  in_its_hour : name.hour ≡ order.contract.hour
  in_its_hour = ap (λ (n : OrderName). n.hour) fits.named

  -- no order of its name is open before
  none-open : open_order history name ≡ None
  none-open =
      find-no (λ (other : Placed). same_name other.name name && is_open history other.name) (placed history) (λ y i.
      let apart : y.name ≢ name = λ same. entered-other setup history fit name (order_name-new setup history name caller order (names-once setup history fit) fits) y i (sym same) in
      rw (other_name y.name name apart) refl)

  free : order_of (book_of history order.contract.hour) name.number ≡ None
  free =
      subst (λ h. order_of (book_of history h) name.number ≡ None) in_its_hour
      (order-found setup history fit name ∙ ap (λ o. option_map resting_of (option_map (standing history) o)) none-open)

  book-beside : without (book_of (and_then history entry) order.contract.hour) name.number ≡ book_of history order.contract.hour
  book-beside =
      ap (λ b. without b name.number) (book-entered setup history fit name caller order fits)
      ∙ without-put (book_of history order.contract.hour) (part_number order.contract.part) _ free

  -- no more are open beside it than before
  few-beside : resting_count (and_then history entry) order.contract.hour (Some name.number) ≤ length (open_names history order.contract.hour)
  few-beside =
      subst (λ xs. length (filter rests (filter (is_open final) xs)) ≤ length (open_names history hour)) (sym given)
      (subst (λ xs. length xs ≤ length (open_names history hour)) (sym parts) fewer)
    where
      hour : ℕ
      hour = order.contract.hour

      final : List Event
      final = and_then history entry

      is_entry : IsEntry history name entry
      is_entry = order-entry setup history fit name caller order fits

      olds : List OrderName
      olds = filter_map (name_given hour) history

      rests : OrderName → Bool
      rests other = not (is_in_hand (Some name.number) other)

      named_here : nat_eq name.hour hour ≡ true
      named_here = eq-eqb name.hour hour in_its_hour

      given : filter_map (name_given hour) final ≡ olds ++ name ∷ []
      given =
          filter_map-append (name_given hour) history (entry ∷ [])
          ∙ ap (λ o. olds ++ cons_option o []) (is_entry.gives hour ∙ ap (λ t. if t then Some name else None) named_here)

      own-out : filter rests (filter (is_open final) (name ∷ [])) ≡ []
      own-out = go (is_open final name)
        where
          go : (b : Bool) → filter rests (cond b (name ∷ []) []) ≡ []
          go true = rw (eq-eqb name.number name.number refl) refl
          go false = refl

      parts : filter rests (filter (is_open final) (olds ++ name ∷ [])) ≡ filter rests (filter (is_open final) olds)
      parts =
          ap (filter rests) (filter-append (is_open final) olds (name ∷ []))
          ∙ filter-append rests (filter (is_open final) olds) (filter (is_open final) (name ∷ []))
          ∙ ap (λ xs. filter rests (filter (is_open final) olds) ++ xs) own-out
          ∙ append-nil (filter rests (filter (is_open final) olds))

      opened : (other : OrderName) → IsIn other olds → is_open final other ≡ true → is_open history other ≡ true
      opened other i open_after =
          let some = ltb-true 0 (left final other) open_after in
          let falls = left-more history entry other (is_entry.enters_it other (λ same. is_entry.new hour other i (sym same))) in
          lt-ltb 0 (left history other) (omega (arith, some, falls))

      fewer : length (filter rests (filter (is_open final) olds)) ≤ length (open_names history hour)
      fewer =
          let less = shorter rests (filter (is_open final) olds) in
          let few = fewer-le (is_open final) (is_open history) olds opened in
          omega (arith, less, few)

module _ (graph : Graph) (events : List Event) (name : OrderName) (caller : ℕ) (order : Order)
    (own : IsNext graph order.contract.hour events (event.Entered name caller order)) where
  in-hand : IsInHand graph order.contract.hour events (and_then events (event.Entered name caller order)) name
  in-hand =
      let hour : ℕ = order.contract.hour in
      let entry : Event = event.Entered name caller order in
      let old = before graph hour events entry own in
      let new = after graph hour events entry own in
      let named : OrderEnters own.setup own.history name caller order = own.fits in
      record {
        named = named.named ∙ sym (next_name-agree (hour ∷ []) events own.history (agrees graph hour events old) hour (inl refl));
        book = ap (λ b. without b name.number) (book-is graph hour (and_then events entry) new)
            ∙ book-beside own.setup own.history own.fit name caller order own.fits ∙ sym (book-is graph hour events old);
        blocks = blocks-are graph hour (and_then events entry) new
            ∙ blocks.book-elsewhere own.setup own.history own.fit hour entry own.fits tt ∙ sym (blocks-are graph hour events old);
        flows = λ flows is. flows-from graph hour (and_then events entry) new flows
            (others own.setup graph own.history entry hour flows own.fit own.fits (flows-to graph hour events old flows is) tt);
        few = (let few = few-beside own.setup own.history own.fit name caller order own.fits in
            let names_old = open_names-agree (hour ∷ []) events own.history (agrees graph hour events old) hour (inl refl) in
            let names_new = open_names-agree (hour ∷ []) (and_then events entry) new.history (agrees graph hour (and_then events entry) new) hour (inl refl) in
            subst (λ xs. length (filter (λ other. not (is_in_hand (Some name.number) other)) xs) ≤ length (open_names events hour)) (sym names_new)
            (subst (λ xs. resting_count (and_then own.history entry) hour (Some name.number) ≤ length xs) (sym names_old) few));
      }

pub enters : OrdersEnterInHand
enters graph hour events name caller order stands =
    let entry : Event = event.Entered name caller order in
    let own = next graph hour events entry stands in
    let named : OrderEnters own.setup own.history name caller order = own.fits in
    let in_hour : order.contract.hour ≡ hour = ap (λ (n : OrderName). n.hour) (sym named.named) ∙ eqb-true name.hour hour own.touched in
    subst (λ h. IsInHand graph h events (and_then events entry) name) in_hour
    (in-hand graph events name caller order (subst (λ h. IsNext graph h events entry) (sym in_hour) own))
