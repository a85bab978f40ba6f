-- What takes a change of the book of orders back.
use Rattle.std.proofs.Common.{◌≡◌, ◌∙◌, inl, inr, ℕ, suc, ◌/◌, ◌%◌, ◌<◌, ◌==◌, Bool, true, false, not, List, [], ◌∷◌, ◌++◌, length, set, get_or, flat_map, find, Some, None, refl, sym, ap, subst, arith, eqb-true, if◌then◌else◌}
use Rattle.std.proofs.lemmas.Bool.{cases_eq, cases_lt, true≢false}
use Rattle.std.proofs.lemmas.List.{get_or_past, length-map, map-set, set-get_or}
use Rattle.std.proofs.lemmas.List.Sorted.{ranks_by}
use Rattle.std.proofs.lemmas.List.Sums.{sum_by-set}
use Rattle.std.specs.List.{list_any}
use Rattle.order_kinds.specs.declared.side.Side.{Side}
use Rattle.order_kinds.specs.declared.side.Side.TheVariants.{Buy, Sell}
use Rattle.zone_graph.specs.InOrder.{put_in_order}
use Rattle.zone_graph.specs.Route.{IsIn}
use Rattle.zone_graph.proofs.Finding.{find-none, from_find}
use Rattle.zone_graph.proofs.Membership.{IsIn-flat_map}
use Rattle.zone_graph.proofs.Places.{at_place}
use Rattle.contract_book.specs.declared.resting.Resting.{Resting}
use Rattle.contract_book.specs.Book.{IsBook, changed, changed_line, filled, has_number, line_number, line_of, line_without, order_count, order_of, parts_of, reduced, with_order, without}
use Rattle.contract_book.specs.Priority.{resting_total}
use Rattle.contract_book.specs.Resting.{order_after, order_less, resting_cmp}
use Rattle.contract_book.proofs.BookShapes.{IsAlone, after-number, any-no, any-some, changed-again, changed-at, has-number, has_not-number, line_without-other, without-at, without-none}
use Rattle.contract_book.proofs.Told.{filled-emptied, filled-rest, reduced-is}
use Rattle.hour_store.specs.declared.change.Change.TheVariants as change
use Rattle.hour_store.specs.Contents.{Contents, IsOfPart}
use Rattle.hour_store.proofs.Alike.{alike-equal, alike-through}
use Rattle.hour_store.proofs.Leads.{IsUndoneBy}
use Rattle.hour_store.specs.TakenBack.{HasItsPlace}
use Rattle.hour_store.proofs.Places.{rested-placed}
use Rattle.hour_store.proofs.PutBack.{filter-put, filter-twice, length-put, map-hides, put-restores}

-- ---- what is left without a number

abbrev other_than : ℕ → Resting → Bool
other_than number order = not (has_number number order)

pub without-twice : (book : List (List Resting)) (number : ℕ) → without (without book number) number ≡ without book number
without-twice book number = map-hides (line_without number) (line_without number) book (filter-twice (other_than number))

pub without-changed : (book : List (List Resting)) (order : Resting) (number : ℕ) → order.number ≡ number → without (changed book order) number ≡ without book number
without-changed book order number is = map-hides (line_without number) (changed_line order) book line
  where
    line : (l : List Resting) → line_without number (changed_line order l) ≡ line_without number l
    line l =
        elim (list_any (has_number order.number) l) as (λ b. line_without number (if b then put_in_order (resting_cmp order.side) (line_without order.number l) order else l) ≡ line_without number l) [
          | true ↦
              filter-put (other_than number) (resting_cmp order.side) (line_without order.number l) order (ap not (has-number order number is))
              ∙ ap (λ n. line_without number (line_without n l)) is ∙ filter-twice (other_than number) l
          | false ↦ refl
        ]

pub without-filled : (book : List (List Resting)) (number : ℕ) (order : Resting) (lots moment : ℕ) → order_of book number ≡ Some order → order.number ≡ number
    → without (filled book number lots moment) number ≡ without book number
without-filled book number order lots moment found is = elim (cases_eq order.left lots) [
  | inl all ↦ ap (λ b. without b number) (filled-emptied book number order found lots moment all) ∙ without-twice book number
  | inr some ↦
      ap (λ b. without b number) (filled-rest book number order found lots moment some)
      ∙ without-changed book (order_after order lots moment) number (after-number order lots moment ∙ is)
]

pub without-reduced : (book : List (List Resting)) (number : ℕ) (order : Resting) (by : ℕ) → order_of book number ≡ Some order → order.number ≡ number
    → without (reduced book number by) number ≡ without book number
without-reduced book number order by found is =
    ap (λ b. without b number) (reduced-is book number order found by) ∙ without-changed book (order_less order by) number is

-- the number by which an order was found
pub found-number : (book : List (List Resting)) (number : ℕ) (order : Resting) → order_of book number ≡ Some order → order.number ≡ number
found-number book number order found = eqb-true order.number number (from_find (has_number number) order (flat_map (λ line. line) book) found).1

-- ---- an order of a book, taken out and put back

line_of_number : (i : ℕ) → (part : ℕ) × (side : Side) × (line_number part side ≡ i)
line_of_number i = elim (cases_eq (i % 2) 0) [
  | inl even ↦ (i / 2, Buy, omega (arith, even))
  | inr odd ↦ (i / 2, Sell, omega (arith, odd))
]

has_number-not : (number : ℕ) (order : Resting) → not (has_number number order) ≡ false → order.number ≡ number
has_number-not number order fails = go (order.number == number) refl fails
  where
    go : (b : Bool) → (order.number == number) ≡ b → not b ≡ false → order.number ≡ number
    go true e k = eqb-true order.number number e
    go false e k = absurd (true≢false k)

module _ (book : List (List Resting)) (is_book : IsBook book) (part : ℕ) (order : Resting) (of_part : IsOfPart book part order) where
  within : line_number part order.side < length book
  within = elim (cases_lt (line_number part order.side) (length book)) [
    | inl low ↦ low
    | inr high ↦ absurd (subst (IsIn order) (get_or_past book (line_number part order.side) [] high) of_part)
  ]

  pub part-there : part < parts_of book
  part-there = go order.side within
    where
      go : (side : Side) → line_number part side < length book → part < parts_of book
      go Buy low = let whole = is_book.whole in omega (arith, low, whole)
      go Sell low = let whole = is_book.whole in omega (arith, low, whole)

  alone : IsAlone book order.number (line_number part order.side)
  alone = record {
    within = within;
    here = any-some (has_number order.number) order (line_of book part order.side) of_part (has-number order order.number refl);
    others = λ i low differs.
        any-no (has_number order.number) (get_or book i []) (λ y j. has_not-number y order.number (λ same.
        let at = line_of_number i in
        let there = is_book.once at.0 part at.1 order.side y order (subst (λ k. IsIn y (get_or book k [])) (sym at.2) j) of_part same in
        differs (sym at.2 ∙ ap (λ q. line_number q at.1) there.0 ∙ ap (line_number part) there.1)));
  }

  line-restored : put_in_order (resting_cmp order.side) (line_without order.number (line_of book part order.side)) order ≡ line_of book part order.side
  line-restored =
      put-restores (resting_cmp order.side) (ranks_by (resting_total order.side) (λ (o : Resting). o)) (other_than order.number) (line_of book part order.side) order
      (is_book.sorted part order.side) of_part (ap not (has-number order order.number refl))
      (λ y i fails. (is_book.once part part order.side order.side y order i of_part (has_number-not order.number y fails)).2)

  -- it is where it was
  pub book-restored : with_order (without book order.number) part order ≡ book
  book-restored =
      changed-again book order.number (line_number part order.side) alone order refl (without book order.number) refl
      ∙ changed-at book order.number (line_number part order.side) alone order refl
      ∙ ap (set book (line_number part order.side)) line-restored
      ∙ set-get_or book (line_number part order.side) []

  -- and while it is out there is place for it
  pub place-left : order_count (without book order.number) < 4096
  place-left =
      let less : List Resting = line_without order.number (line_of book part order.side) in
      let out : order_count (without book order.number) ≡ order_count (set book (line_number part order.side) less) = ap order_count (without-at book order.number (line_number part order.side) alone) in
      let sum = sum_by-set length book (line_number part order.side) less [] within in
      let one : suc (length less) ≡ length (line_of book part order.side) = sym (length-put (resting_cmp order.side) less order) ∙ ap length line-restored in
      let few = is_book.few in
      omega (arith, out, sum, one, few)

-- an order that changed
pub order-undone : (part : ℕ) (order : Resting) (old now : Contents) → IsBook old.book → IsOfPart old.book part order
    → without now.book order.number ≡ without old.book order.number → HasItsPlace now.book part order → now.blocks ≡ old.blocks → now.flows ≡ old.flows
    → IsUndoneBy (change.OrderChanged part order) old now
order-undone part order old now is_book of_part same placed blocks flows = record {
  can = (
    placed,
    record {
      part_there =
          let many : length now.book ≡ length old.book = sym (length-map now.book (line_without order.number)) ∙ ap length same ∙ length-map old.book (line_without order.number) in
          let low = part-there old.book is_book part order of_part in
          omega (arith, many, low);
      sound = is_book.sound part order.side order of_part;
      place = subst (λ b. order_count b < 4096) (sym same) (place-left old.book is_book part order of_part);
    },
  );
  was = record { book_is = sym again; blocks = sym blocks; flows = alike-equal now.flows old.flows (sym flows) };
  back = λ before back. record {
    book = back.book_is ∙ again;
    blocks = back.blocks ∙ blocks;
    flows = alike-through old.flows now.flows before.flows (alike-equal old.flows now.flows flows) back.flows;
  };
}
  where
    again : with_order (without now.book order.number) part order ≡ old.book
    again = ap (λ b. with_order b part order) same ∙ book-restored old.book is_book part order of_part

-- ---- an order that came to rest

module _ (book : List (List Resting)) (number : ℕ) (absent : order_of book number ≡ None) where
  pub none-stands : (k : ℕ) → list_any (has_number number) (get_or book k []) ≡ false
  none-stands k = elim (cases_lt k (length book)) [
    | inl low ↦ any-no (has_number number) (get_or book k []) (λ y i.
        find-none (has_number number) (flat_map (λ line. line) book) absent y
        (IsIn-flat_map (λ (line : List Resting). line) (get_or book k []) y book (at_place book k [] low) i))
    | inr high ↦ ap (list_any (has_number number)) (get_or_past book k [] high)
  ]

  pub without-rested : (part : ℕ) (order : Resting) → order.number ≡ number → without (with_order book part order) number ≡ book
  without-rested part order is =
      let k : ℕ = line_number part order.side in
      map-set (line_without number) book k (put_in_order (resting_cmp order.side) (get_or book k []) order)
      ∙ ap (λ b. set b k (line_without number (put_in_order (resting_cmp order.side) (get_or book k []) order))) (without-none book number (λ i low. none-stands i))
      ∙ ap (set book k) (filter-put (other_than number) (resting_cmp order.side) (get_or book k []) order (ap not (has-number order number is))
      ∙ line_without-other number (get_or book k []) (none-stands k))
      ∙ set-get_or book k []

pub rest-undone : (part : ℕ) (order : Resting) (old now : Contents) → order_of old.book order.number ≡ None → now.book ≡ with_order old.book part order
    → now.blocks ≡ old.blocks → now.flows ≡ old.flows → IsUndoneBy (change.OrderRested part order) old now
rest-undone part order old now absent is blocks flows = record {
  can = subst (λ b. HasItsPlace b part order) (sym is) (rested-placed old.book part order (none-stands old.book order.number absent));
  was = record { book_is = sym out; blocks = sym blocks; flows = alike-equal now.flows old.flows (sym flows) };
  back = λ before back. record {
    book = back.book_is ∙ out;
    blocks = back.blocks ∙ blocks;
    flows = alike-through old.flows now.flows before.flows (alike-equal old.flows now.flows flows) back.flows;
  };
}
  where
    out : without now.book order.number ≡ old.book
    out = ap (λ b. without b order.number) is ∙ without-rested old.book order.number absent part order refl

-- no order has a number that was left out
pub absent-without : (book : List (List Resting)) (number : ℕ) → order_of (without book number) number ≡ None
absent-without book number = go book
  where
    lines : (line : List Resting) (rest : List Resting) → find (has_number number) rest ≡ None → find (has_number number) (line_without number line ++ rest) ≡ None
    lines [] rest none = none
    lines (order ∷ line) rest none = by (has_number number order) refl (lines line rest none)
      where
        by : (b : Bool) → has_number number order ≡ b → find (has_number number) (line_without number line ++ rest) ≡ None → find (has_number number) (line_without number (order ∷ line) ++ rest) ≡ None
        by true e later = rw e later
        by false e later = rw e (rw e later)

    go : (b : List (List Resting)) → order_of (without b number) number ≡ None
    go [] = refl
    go (line ∷ b) = lines line (flat_map (λ l. l) (without b number)) (go b)
