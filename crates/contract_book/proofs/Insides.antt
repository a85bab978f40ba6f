-- What the places and lines of a book show of its orders.
use Rattle.std.proofs.Common.{◌≡◌, ◌≢◌, ◌∙◌, inl, inr, ℕ, zero, suc, ◌+◌, ◌*◌, ◌%◌, ◌<◌, ◌==◌, if◌then◌else◌, true, List, [], ◌∷◌, ◌++◌, length, set, get_or, map, flat_map, sum_by, Contains, Option, Some, None, IsSome, refl, sym, ap, subst, arith, eqb-true}
use Rattle.std.proofs.lemmas.Bool.{cases_eq, cases_lt, true≢false}
use Rattle.std.proofs.lemmas.List.{get_or-set_same, get_or-set_other, length-set, ext_get_or, get_or-map, length-map, get_or_past, map-append}
use Rattle.std.proofs.lemmas.List.Sums.{sum_by-cons}
use Rattle.std.specs.List.{cons_option, list_any}
use Rattle.order_kinds.specs.declared.side.Side.{Side}
use Rattle.order_kinds.specs.declared.side.Side.TheVariants.{Buy, Sell}
use Rattle.order_pool.specs.Lines.{line_at, first_in, StandsIn, StandsBetween}
use Rattle.order_pool.proofs.Chains.{Misses}
use Rattle.order_pool.proofs.OnceLemmas.{misses_contains, once_back, once_front}
use Rattle.zone_graph.specs.InOrder.{IsStrictlyInOrder}
use Rattle.zone_graph.specs.Route.{IsIn}
use Rattle.zone_graph.proofs.InOrder.{in_order-map}
use Rattle.zone_graph.proofs.Membership.{IsIn-flat_map, from_flat_map, IsIn-map, from_map}
use Rattle.record_pool.specs.Keyed.{held_at, held_count, IsAbsent}
use Rattle.record_pool.specs.Ranked.{records_of}
use Rattle.record_pool.proofs.Counts.{held_count-most}
use Rattle.record_pool.proofs.LineLemmas.{from_records, in_records}
use Rattle.record_pool.proofs.SpotLemmas.{records-through}
use Rattle.contract_book.specs.declared.held.Held.{Held}
use Rattle.contract_book.specs.declared.resting.Resting.{Resting}
use Rattle.contract_book.specs.Book.{IsBook, after_in, first_of, has_number, line_number, line_without, line_of, order_count, order_of}
use Rattle.contract_book.specs.Inside.{BelongsTo, IsInside, book_in, held_cmp, number_of, orders_in, side_of}
use Rattle.contract_book.specs.Resting.{IsSound, resting_cmp}
use Rattle.contract_book.proofs.BookShapes.{IsAlone, any-no, any-some, find-no, find-only, has-number, has_not-number, line_without-here}

abbrev pub order_in : Held → Resting
order_in held = held.order

IsIn-at : {X : Type 0} (xs : List (List X)) (k : ℕ) → k < length xs → IsIn (get_or xs k []) xs
IsIn-at [] k low = absurd (omega (arith, low))
IsIn-at (x ∷ xs) zero low = inl refl
IsIn-at (x ∷ xs) (suc k) low = inr (IsIn-at xs k (omega (arith, low)))

at-IsIn : {X : Type 0} (xs : List (List X)) (x : List X) → IsIn x xs → (k : ℕ) × (get_or xs k [] ≡ x)
at-IsIn [] x i = absurd i
at-IsIn (y ∷ xs) x i = elim i [ inl same ↦ (0, sym same) | inr j ↦ let rest = at-IsIn xs x j in (suc rest.0, rest.1) ]

-- the lines of a book and the lines of places
module _ (places : List (Option Held)) (lines : List (List ℕ)) where
  pub length-book : length (book_in places lines) ≡ length lines
  length-book = length-map lines (orders_in places)

  pub line-book : (k : ℕ) → get_or (book_in places lines) k [] ≡ orders_in places (line_at lines k)
  line-book k = elim (cases_lt k (length lines)) [
    | inl low ↦ get_or-map (orders_in places) lines k [] [] low
    | inr high ↦
        let none : line_at lines k ≡ [] = get_or_past lines k [] high in
        get_or_past (book_in places lines) k [] (omega (arith, high, length-book)) ∙ ap (orders_in places) (sym none)
  ]

-- a book of which one line is another one
pub book-set : (places new : List (Option Held)) (lines after : List (List ℕ)) (k : ℕ) (line : List Resting) → length after ≡ length lines → k < length lines
    → ((i : ℕ) → i < length lines → i ≢ k → orders_in new (line_at after i) ≡ orders_in places (line_at lines i)) → orders_in new (line_at after k) ≡ line
    → book_in new after ≡ set (book_in places lines) k line
book-set places new lines after k line many within kept here =
    let none : List Resting = [] in
    ext_get_or none (book_in new after) (set (book_in places lines) k line)
    (length-book new after ∙ many ∙ sym (length-set (book_in places lines) k line ∙ length-book places lines)) (λ i low.
    let inside : i < length lines = omega (arith, low, length-book new after, many) in
    line-book new after i ∙ elim (cases_eq i k) [
      | inl is ↦
          ap (λ j. orders_in new (line_at after j)) is ∙ here
          ∙ sym (ap (λ j. get_or (set (book_in places lines) k line) j none) is ∙ get_or-set_same (book_in places lines) k line none (omega (arith, within, length-book places lines)))
      | inr differs ↦ kept i inside differs ∙ sym (line-book places lines i) ∙ sym (get_or-set_other (book_in places lines) k i line none differs)
    ])

module _ (places : List (Option Held)) (lines : List (List ℕ)) (inside : IsInside places lines) where
  -- an order of a line is that of a place of it
  pub from_line : (k : ℕ) (order : Resting) → IsIn order (orders_in places (line_at lines k)) → (place : ℕ) × (held : Held) × StandsIn lines k place × (held_at places place ≡ Some held) × (order ≡ held.order)
  from_line k order i =
      let made = from_map order_in order (records_of places (line_at lines k)) i in
      let found = from_records places made.0 (line_at lines k) made.1 in
      (found.0, made.0, (within found.0 found.1, found.1), found.2, made.2)
    where
      within : (place : ℕ) → Contains (line_at lines k) place → k < length lines
      within place has = elim (cases_lt k (length lines)) [
        | inl low ↦ low
        | inr high ↦ absurd (let none : line_at lines k ≡ [] = get_or_past lines k [] high in omega (arith, has.1, ap length none))
      ]

  pub in_line : (k place : ℕ) (held : Held) → StandsIn lines k place → held_at places place ≡ Some held → IsIn held.order (orders_in places (line_at lines k))
  in_line k place held stands holds =
      IsIn-map order_in held (records_of places (line_at lines k)) (in_records places held place (line_at lines k) stands.1 holds)

  -- the line in which a place stands
  pub line_is : (k place : ℕ) (held : Held) → StandsIn lines k place → held_at places place ≡ Some held → BelongsTo k held
  line_is k place held stands holds =
      let there = inside.are.live k place stands in
      let same : there.0 ≡ held = (let other = there.1 in cc) in
      subst (BelongsTo k) same there.2

  pub stands_in : (place : ℕ) (held : Held) → held_at places place ≡ Some held → StandsIn lines held.line place
  stands_in place held holds =
      let there = inside.are.stands place held holds in
      let is = (line_is there.0 place held there.1 holds).0 in
      subst (λ k. StandsIn lines k place) (sym is) there.1

  -- orders of one number are one, of one line
  pub same_order : (k j : ℕ) (order same : Resting) → IsIn order (orders_in places (line_at lines k)) → IsIn same (orders_in places (line_at lines j)) → order.number ≡ same.number → (k ≡ j) × (order ≡ same)
  same_order k j order same i i' numbers =
      let one = from_line k order i in
      let other = from_line j same i' in
      let own : number_of one.1 ≡ number_of other.1 = ap (λ (o : Resting). o.number) (sym one.4) ∙ numbers ∙ ap (λ (o : Resting). o.number) other.4 in
      let at : one.0 ≡ other.0 = inside.keyed.once one.0 other.0 one.1 other.1 one.3 other.3 own in
      let held : one.1 ≡ other.1 = (let a = one.3 in let b : held_at places one.0 ≡ Some other.1 = ap (held_at places) at ∙ other.3 in cc) in
      let line : k ≡ j = sym (line_is k one.0 one.1 one.2 one.3).0 ∙ ap (λ (h : Held). h.line) held ∙ (line_is j other.0 other.1 other.2 other.3).0 in
      (line, one.4 ∙ ap order_in held ∙ sym other.4)

  -- the orders of a line are as many as its places
  length-orders : (line : List ℕ) → ((place : ℕ) → Contains line place → IsSome (held_at places place)) → length (orders_in places line) ≡ length line
  length-orders [] live = refl
  length-orders (place ∷ line) live = go (held_at places place) (live place (0, omega arith, refl)) (length-orders line (λ p has. live p (suc has.0, (let less = has.1 in omega (arith, less)), has.2)))
    where
      go : (o : Option Held) → IsSome o → length (orders_in places line) ≡ length line → length (map order_in (cons_option o (records_of places line))) ≡ suc (length line)
      go None some rest = absurd (cc)
      go (Some held) some rest = ap suc rest

  count-lines : (book : List (List ℕ)) → ((k : ℕ) → k < length book → length (orders_in places (line_at book k)) ≡ length (line_at book k)) → sum_by length (map (orders_in places) book) ≡ sum_by length book
  count-lines [] each = refl
  count-lines (line ∷ book) each =
      let first = each 0 (omega arith) in
      let rest = count-lines book (λ k low. each (suc k) (omega (arith, low))) in
      rw (sum_by-cons length (orders_in places line) (map (orders_in places) book), sum_by-cons length line book) (omega (arith, first, rest))

  pub order_count-held : order_count (book_in places lines) ≡ held_count places
  order_count-held =
      count-lines lines (λ k low. length-orders (line_at lines k) (λ place has. let there = inside.are.live k place (low, has) in subst IsSome (sym there.1) refl)) ∙ inside.are.total

  -- an order of a line is one of the book
  in_book : (k : ℕ) (order : Resting) → IsIn order (orders_in places (line_at lines k)) → IsIn order (flat_map (λ line. line) (book_in places lines))
  in_book k order i =
      let place = from_line k order i in
      IsIn-flat_map (λ (line : List Resting). line) (orders_in places (line_at lines k)) order (book_in places lines) (IsIn-map (orders_in places) (line_at lines k) lines (IsIn-at lines k place.2.0)) i

  from_book : (order : Resting) → IsIn order (flat_map (λ line. line) (book_in places lines)) → (k : ℕ) × IsIn order (orders_in places (line_at lines k))
  from_book order i =
      let found = from_flat_map (λ (line : List Resting). line) order (book_in places lines) i in
      let made = from_map (orders_in places) found.0 lines found.1 in
      let at = at-IsIn lines made.0 made.1 in
      (at.0, subst (IsIn order) (made.2 ∙ ap (orders_in places) (sym at.1)) found.2)

  -- the order of a place is found by its number
  pub order_of-held : (place : ℕ) (held : Held) → held_at places place ≡ Some held → order_of (book_in places lines) held.order.number ≡ Some held.order
  order_of-held place held holds =
      let stands = stands_in place held holds in
      let here = in_line held.line place held stands holds in
      find-only (has_number held.order.number) held.order (flat_map (λ line. line) (book_in places lines))
      (in_book held.line held.order here) (has-number held.order held.order.number refl) (λ y i passes.
      let there = from_book y i in
      (same_order there.0 held.line y held.order there.1 here (eqb-true y.number held.order.number passes)).1)

  -- and none is found where no place holds the number
  pub order_of-absent : (number : ℕ) → IsAbsent number_of places number → order_of (book_in places lines) number ≡ None
  order_of-absent number absent =
      find-no (has_number number) (flat_map (λ line. line) (book_in places lines)) (λ y i.
      let there = from_book y i in
      let place = from_line there.0 y there.1 in
      has_not-number y number (λ same. absent place.0 place.1 place.3 (ap (λ (o : Resting). o.number) (sym place.4) ∙ same)))

  -- a number that is not found is held by no place
  pub absent-order_of : (number : ℕ) → order_of (book_in places lines) number ≡ None → IsAbsent number_of places number
  absent-order_of number none place held holds same =
      let found : order_of (book_in places lines) number ≡ Some held.order = ap (order_of (book_in places lines)) (sym same) ∙ order_of-held place held holds in
      absurd (cc)

  -- the number of an order stands in its line alone
  pub is_alone : (place : ℕ) (held : Held) → held_at places place ≡ Some held → IsAlone (book_in places lines) held.order.number held.line
  is_alone place held holds =
      let stands = stands_in place held holds in
      let here = in_line held.line place held stands holds in
      record {
        within = omega (arith, stands.0, length-book places lines);
        here = ap (list_any (has_number held.order.number)) (line-book places lines held.line) ∙ any-some (has_number held.order.number) held.order (orders_in places (line_at lines held.line)) here (has-number held.order held.order.number refl);
        others = λ i low differs.
            ap (list_any (has_number held.order.number)) (line-book places lines i)
            ∙ any-no (has_number held.order.number) (orders_in places (line_at lines i)) (λ y j.
            has_not-number y held.order.number (λ same. differs (same_order i held.line y held.order j here same).0));
      }

  -- the orders of a line through a place
  module _ (place : ℕ) (held : Held) (holds : held_at places place ≡ Some held) (front back : List ℕ) (stands : StandsBetween lines held.line front place back) where
    pub orders-through : orders_in places (line_at lines held.line) ≡ orders_in places front ++ held.order ∷ orders_in places back
    orders-through =
        ap (map order_in) (ap (records_of places) stands.1 ∙ records-through places front back place held holds)
        ∙ map-append order_in (records_of places front) (held ∷ records_of places back)

    -- no other order of the line has its number
    apart : (part : List ℕ) (y : Resting) → Misses place part → IsIn y (orders_in places part) → y.number ≢ held.order.number
    apart part y misses i = λ same.
        let made = from_map order_in y (records_of places part) i in
        let found = from_records places made.0 part made.1 in
        misses_contains place found.0 part misses found.1 (inside.keyed.once found.0 place made.0 held found.2 holds (ap (λ (o : Resting). o.number) (sym made.2) ∙ same))

    pub number-ahead : (y : Resting) → IsIn y (orders_in places front) → y.number ≢ held.order.number
    number-ahead y i = apart front y (once_front lines inside.are.rings.once held.line place front back stands) i

    pub number-behind : (y : Resting) → IsIn y (orders_in places back) → y.number ≢ held.order.number
    number-behind y i = apart back y (once_back lines inside.are.rings.once held.line place front back stands) i

    -- the line without the order
    pub line-less : line_without held.order.number (orders_in places (line_at lines held.line)) ≡ orders_in places front ++ orders_in places back
    line-less = ap (line_without held.order.number) orders-through ∙ line_without-here (orders_in places front) (orders_in places back) held.order number-ahead number-behind

    -- the order behind it
    pub after-through : after_in held.order.number (orders_in places (line_at lines held.line)) ≡ first_of (orders_in places back)
    after-through = ap (after_in held.order.number) orders-through ∙ go (orders_in places front) number-ahead
      where
        go : (ahead : List Resting) → ((y : Resting) → IsIn y ahead → y.number ≢ held.order.number) → after_in held.order.number (ahead ++ held.order ∷ orders_in places back) ≡ first_of (orders_in places back)
        go [] none = rw (has-number held.order held.order.number refl) refl
        go (first ∷ ahead) none = rw (has_not-number first held.order.number (none first (inl refl))) (go ahead (λ y i. none y (inr i)))

  -- what a line, or a part of it, has first
  pub first-none : (line : List ℕ) → first_in line ≡ None → first_of (orders_in places line) ≡ None
  first-none [] is = refl
  first-none (place ∷ line) is = absurd (cc)

  pub first-some : (line : List ℕ) (place : ℕ) (held : Held) → first_in line ≡ Some place → held_at places place ≡ Some held → first_of (orders_in places line) ≡ Some held.order
  first-some [] place held is holds = absurd (cc)
  first-some (first ∷ line) place held is holds =
      let same : first ≡ place = cc in
      ap (λ o. first_of (map order_in (cons_option o (records_of places line)))) (ap (held_at places) same ∙ holds)

  -- a line in which a number stands is that of the order
  pub line-alone : (place : ℕ) (held : Held) → held_at places place ≡ Some held → (k : ℕ) → list_any (has_number held.order.number) (get_or (book_in places lines) k []) ≡ true → k ≡ held.line
  line-alone place held holds k any = elim (cases_eq k held.line) [
    | inl is ↦ is
    | inr differs ↦ elim (cases_lt k (length (book_in places lines))) [
      | inl low ↦ absurd (true≢false (sym any ∙ (is_alone place held holds).others k low differs))
      | inr high ↦
          let none : get_or (book_in places lines) k [] ≡ [] = get_or_past (book_in places lines) k [] high in
          absurd (true≢false (sym any ∙ ap (list_any (has_number held.order.number)) none))
    ]
  ]

-- the side of a line is that of its number
pub side-of_line : (part : ℕ) (side : Side) → side_of (line_number part side) ≡ side
side-of_line part Buy =
    let even : 2 * part % 2 ≡ 0 = omega arith in
    ap (λ n. if n == 0 then Buy else Sell) even
side-of_line part Sell =
    let odd : (2 * part + 1) % 2 ≡ 1 = omega arith in
    ap (λ n. if n == 0 then Buy else Sell) odd

pub line_number-one : (part other : ℕ) (side opposite : Side) → line_number part side ≡ line_number other opposite → (part ≡ other) × (side ≡ opposite)
line_number-one part other Buy Buy same = (omega (arith, same), refl)
line_number-one part other Buy Sell same = absurd (omega (arith, same))
line_number-one part other Sell Buy same = absurd (omega (arith, same))
line_number-one part other Sell Sell same = (omega (arith, same), refl)

-- a book keeps what every book keeps
pub book_in-sound : (places : List (Option Held)) (lines : List (List ℕ)) → IsInside places lines → IsBook (book_in places lines)
book_in-sound places lines inside =
    let shown : (part : ℕ) (side : Side) (order : Resting) → IsIn order (line_of (book_in places lines) part side) → IsIn order (orders_in places (line_at lines (line_number part side))) =
    λ part side order i. subst (IsIn order) (line-book places lines (line_number part side)) i in
    record {
      whole = rw (length-book places lines) inside.whole;
      few = omega (arith, order_count-held places lines inside, held_count-most places, inside.keyed.size);
      sorted = λ part side. rw (line-book places lines (line_number part side)) (sorted part side);
      sided = λ part side order i.
          let place = from_line places lines inside (line_number part side) order (shown part side order i) in
          ap (λ (o : Resting). o.side) place.4 ∙ (line_is places lines inside (line_number part side) place.0 place.1 place.2 place.3).1 ∙ side-of_line part side;
      sound = λ part side order i.
          let place = from_line places lines inside (line_number part side) order (shown part side order i) in
          subst IsSound (sym place.4) (inside.sound place.0 place.1 place.3);
      once = λ part other side opposite order same i j numbers.
          let one = same_order places lines inside (line_number part side) (line_number other opposite) order same (shown part side order i) (shown other opposite same j) numbers in
          let at = line_number-one part other side opposite one.0 in
          (at.0, at.1, one.1);
    }
  where
    sorted : (part : ℕ) (side : Side) → IsStrictlyInOrder (resting_cmp side) (orders_in places (line_at lines (line_number part side)))
    sorted part side = elim (cases_lt (line_number part side) (length lines)) [
      | inl low ↦
          in_order-map order_in (held_cmp side) (resting_cmp side) (λ a b. refl) (records_of places (line_at lines (line_number part side)))
          (subst (λ s. IsStrictlyInOrder (held_cmp s) (records_of places (line_at lines (line_number part side)))) (side-of_line part side) (inside.are.sorted (line_number part side) low))
      | inr high ↦
          let none : line_at lines (line_number part side) ≡ [] = get_or_past lines (line_number part side) [] high in
          subst (λ l. IsStrictlyInOrder (resting_cmp side) (orders_in places l)) (sym none) tt
    ]
