-- Fills of orders in a book whose lines are in priority and in which no number stands twice, with an order
-- left out or not.
use Rattle.std.proofs.Common.{◌≡◌, ◌≢◌, ◌∙◌, ◌⊎◌, inl, inr, ℕ, ◌==◌, not, Bool, true, false, cond, List, [], ◌∷◌, ◌++◌, flat_map, map, filter, Option, Some, None, eq-eqb, eqb-true, refl, sym, ap, subst, if◌then◌else◌}
use Rattle.std.proofs.lemmas.Bool.{true≢false}
use Rattle.std.proofs.lemmas.List.Elements.{filter-append}
use Rattle.std.specs.List.{find}
use Rattle.std.specs.Ordering.{is_lt}
use Rattle.order_kinds.specs.declared.side.Side.{Side}
use Rattle.zone_graph.specs.InOrder.{IsStrictlyInOrder, put_in_order}
use Rattle.zone_graph.specs.Route.{IsIn}
use Rattle.zone_graph.proofs.Finding.{from_find}
use Rattle.zone_graph.proofs.InOrder.{in_order-filter}
use Rattle.zone_graph.proofs.Membership.{IsIn-flat_map, IsIn-map, from_flat_map, from_map}
use Rattle.contract_book.specs.declared.resting.Resting.{Resting}
use Rattle.contract_book.specs.Book.{filled, has_number, line_without, order_of, without}
use Rattle.contract_book.specs.Resting.{order_after, resting_cmp}
use Rattle.contract_book.proofs.BookShapes.{after-number, after-side, find-only, has-number, has_not-number}
use Rattle.laws_of_market.proofs.Restrict.{find-filter, map-same}
use Rattle.laws_of_books.proofs.LegFills.{fill_of}
use Rattle.laws_of_books.proofs.LegsInBooks.{fill-by}
use Rattle.laws_of_books.proofs.Updates.{Change, IsOfNumber, IsOfSide, after-strict, from_after, in_after, from_less, from_stands, less-both, line_after, stands}
use Rattle.laws_of_hours.specs.OrderEvents.{filled_beside, holds, without_hand}

-- the orders of a book
abbrev pub orders_in : List (List Resting) → List Resting
orders_in book = flat_map (λ line. line) book

-- a line is strictly in priority and has orders of one side
pub record IsSided (line : List Resting) : Type 0 where
  pub side : Side
  pub strict : IsStrictlyInOrder (resting_cmp side) line
  pub sided : (order : Resting) → IsIn order line → order.side ≡ side

-- each line is so, and no number stands twice
pub record IsOrderly (book : List (List Resting)) : Type 0 where
  pub each : (line : List Resting) → IsIn line book → IsSided line
  pub once : (one other : Resting) → IsIn one (orders_in book) → IsIn other (orders_in book) → one.number ≡ other.number → one ≡ other

-- ---- lists

pub map-twice : {X Y Z : Type 0} (f : Y → Z) (g : X → Y) (xs : List X) → map f (map g xs) ≡ map (λ x. f (g x)) xs
map-twice f g [] = refl
map-twice f g (x ∷ xs) = ap (λ ys. f (g x) ∷ ys) (map-twice f g xs)

filter-twice : {X : Type 0} (p : X → Bool) (xs : List X) → filter p (filter p xs) ≡ filter p xs
filter-twice p [] = refl
filter-twice {X} p (x ∷ xs) = go (p x) refl (filter-twice p xs)
  where
    go : (b : Bool) → p x ≡ b → filter p (filter p xs) ≡ filter p xs
        → filter p (cond b (x ∷ filter p xs) (filter p xs)) ≡ cond b (x ∷ filter p xs) (filter p xs)
    go true e rest = rw e (ap (λ ys. x ∷ ys) rest)
    go false e rest = rest

-- without an item that does not pass, a list passes as with it
pub filter-put : {X : Type 0} (p : X → Bool) (before : X → X → Bool) (put : List X → X → List X) (x : X) → p x ≡ false
    → (put [] x ≡ x ∷ []) → ((y : X) (ys : List X) → put (y ∷ ys) x ≡ (if before x y then (x ∷ y ∷ ys) else (y ∷ put ys x)))
    → (ys : List X) → filter p (put ys x) ≡ filter p ys
filter-put p before put x fails none some [] = rw none (rw fails refl)
filter-put {X} p before put x fails none some (y ∷ ys) = rw (some y ys) (go (before x y) (filter-put p before put x fails none some ys))
  where
    go : (b : Bool) → filter p (put ys x) ≡ filter p ys → filter p (if b then (x ∷ y ∷ ys) else (y ∷ put ys x)) ≡ filter p (y ∷ ys)
    go true rest = rw fails refl
    go false rest = ap (λ zs. cond (p y) (y ∷ zs) zs) rest

filter-lines : (p : Resting → Bool) (book : List (List Resting)) → orders_in (map (filter p) book) ≡ filter p (orders_in book)
filter-lines p [] = refl
filter-lines p (line ∷ book) = ap (λ xs. filter p line ++ xs) (filter-lines p book) ∙ sym (filter-append p line (orders_in book))

-- ---- lines

-- a line without the order of a number, and with a change of another one
less-changed : (side : Side) (change : Change) (number : ℕ) (line : List Resting) → IsOfNumber change → change.number ≢ number → IsOfSide side change line
    → IsStrictlyInOrder (resting_cmp side) line → line_without number (line_after change line) ≡ line_after change (line_without number line)
less-changed side change number line own differs sided strict =
    sym (filter-twice (λ order. not (has_number number order)) (line_after change line))
    ∙ less-both side change (record { number = number; next = None }) line own (λ order e. absurd (let no : ⊥ = cc in no)) differs sided
    (λ order e. absurd (let no : ⊥ = cc in no)) strict

-- and of that one
less-same : (change : Change) (line : List Resting) → IsOfNumber change → line_without change.number (line_after change line) ≡ line_without change.number line
less-same change line own = go change.next refl
  where
    p : Resting → Bool
    p order = not (has_number change.number order)

    changed : (order : Resting) → order.number ≡ change.number → (b : Bool)
        → filter p (if b then put_in_order (resting_cmp order.side) (line_without order.number line) order else line) ≡ filter p line
    changed order same false = refl
    changed order same true =
        filter-put p (λ x y. is_lt (resting_cmp order.side x y)) (put_in_order (resting_cmp order.side)) order
        (rw (has-number order change.number same) refl) refl (λ y ys. refl) (line_without order.number line)
        ∙ ap (λ n. filter p (line_without n line)) same ∙ filter-twice p line

    go : (next : Option Resting) → change.next ≡ next → filter p (line_after (record change { next = next }) line) ≡ filter p line
    go None e = filter-twice p line
    go (Some order) e = changed order (own order e) (stands order.number line)

-- ---- fills

module _ (book : List (List Resting)) (orderly : IsOrderly book) (number : ℕ) (order : Resting) (found : order_of book number ≡ Some order) (lots moment : ℕ) where
  abbrev fill : Change
  fill = fill_of order lots moment

  there : IsIn order (orders_in book)
  there = (from_find (has_number number) order (orders_in book) found).0

  pub numbered : order.number ≡ number
  numbered = eqb-true order.number number (from_find (has_number number) order (orders_in book) found).1

  found_too : order_of book order.number ≡ Some order
  found_too = ap (order_of book) numbered ∙ found

  next-is : (next : Resting) → fill.next ≡ Some next → (next.number ≡ order.number) × (next.side ≡ order.side)
  next-is next is = go (order.left == lots) is
    where
      go : (b : Bool) → (if b then None else Some (order_after order lots moment)) ≡ Some next → (next.number ≡ order.number) × (next.side ≡ order.side)
      go true e = absurd (cc)
      go false e =
          let same : order_after order lots moment ≡ next = cc in
          (ap (λ (r : Resting). r.number) (sym same) ∙ after-number order lots moment, ap (λ (r : Resting). r.side) (sym same) ∙ after-side order lots moment)

  pub fill-own : IsOfNumber fill
  fill-own next is = (next-is next is).0

  -- a fill changes the record of the order in each line
  pub filled-by : filled book number lots moment ≡ map (line_after fill) book
  filled-by = ap (λ n. filled book n lots moment) (sym numbered) ∙ fill-by book order lots moment found_too

  pub fill-sided : (line : List Resting) → IsIn line book → (own : IsSided line) → IsOfSide own.side fill line
  fill-sided line i own next is stood =
      let at = from_stands order.number line stood in
      let same : at.0 ≡ order = orderly.once at.0 order (IsIn-flat_map (λ l. l) line at.0 book i at.1) there at.2 in
      (next-is next is).1 ∙ ap (λ (r : Resting). r.side) (sym same) ∙ own.sided at.0 at.1

  -- what is in the book after the fill was there under another number, or is the new record
  from_filled : (x : Resting) → IsIn x (orders_in (map (line_after fill) book))
      → (IsIn x (orders_in book) × (x.number ≢ order.number)) ⊎ (fill.next ≡ Some x)
  from_filled x i =
      let at = from_flat_map (λ (l : List Resting). l) x (map (line_after fill) book) i in
      let line = from_map (line_after fill) at.0 book at.1 in
      elim (from_after fill line.0 x fill-own (subst (IsIn x) line.2 at.2)) [
        | inl old ↦ inl (IsIn-flat_map (λ l. l) line.0 x book line.1 old.0, old.1)
        | inr new ↦ inr new.1
      ]

  -- one of another number is found as before
  pub found-beside : (other : ℕ) (own : Resting) → order_of book other ≡ Some own → other ≢ number → order_of (filled book number lots moment) other ≡ Some own
  found-beside other own own_found differs =
      let is = from_find (has_number other) own (orders_in book) own_found in
      let own_number : own.number ≡ other = eqb-true own.number other is.1 in
      let at = from_flat_map (λ (l : List Resting). l) own book is.0 in
      let kept : IsIn own (line_after fill at.0) =
      in_after fill at.0 own fill-own (inl (at.2, λ same. differs (sym own_number ∙ same ∙ numbered))) in
      ap (λ b. order_of b other) filled-by
      ∙ find-only (has_number other) own (orders_in (map (line_after fill) book))
      (IsIn-flat_map (λ l. l) (line_after fill at.0) own (map (line_after fill) book) (IsIn-map (line_after fill) at.0 book at.1) kept) is.1
      (λ y i passes.
      let y_number : y.number ≡ other = eqb-true y.number other passes in
      elim (from_filled y i) [
        | inl old ↦ orderly.once y own old.0 is.0 (y_number ∙ sym own_number)
        | inr new ↦ absurd (differs (sym y_number ∙ fill-own y new ∙ numbered))
      ])

  -- the book stays orderly
  pub orderly-filled : IsOrderly (filled book number lots moment)
  orderly-filled = subst IsOrderly (sym filled-by) (record {
    each = λ line i.
        let old = from_map (line_after fill) line book i in
        let own = orderly.each old.0 old.1 in
        subst IsSided (sym old.2) (record {
          side = own.side;
          strict = after-strict own.side fill old.0 fill-own (fill-sided old.0 old.1 own) own.strict;
          sided = λ x j. elim (from_after fill old.0 x fill-own j) [
            | inl was ↦ own.sided x was.0
            | inr new ↦ fill-sided old.0 old.1 own x new.1 new.0
          ];
        });
    once = λ one other i j same. elim (from_filled one i) [
      | inl old ↦ elim (from_filled other j) [
        | inl older ↦ orderly.once one other old.0 older.0 same
        | inr new ↦ absurd (old.1 (same ∙ fill-own other new))
      ]
      | inr new ↦ elim (from_filled other j) [
        | inl old ↦ absurd (old.1 (sym same ∙ fill-own one new))
        | inr newer ↦ (let both : Some one ≡ Some other = sym new ∙ newer in cc)
      ]
    ];
  })

  -- ---- an order left out

  -- without the order the fill is nothing
  pub filled-same : without (filled book number lots moment) number ≡ without book number
  filled-same =
      ap (λ b. without b number) filled-by ∙ map-twice (line_without number) (line_after fill) book
      ∙ map-same (λ line. line_without number (line_after fill line)) (line_without number) book (λ line i.
      ap (λ n. line_without n (line_after fill line)) (sym numbered) ∙ less-same fill line fill-own ∙ ap (λ n. line_without n line) numbered)

  -- one of another number is found in a book without the other
  pub found-less : (other : ℕ) → number ≢ other → order_of (without book other) number ≡ Some order
  found-less other differs =
      ap (find (has_number number)) (filter-lines (λ x. not (has_number other x)) book)
      ∙ find-filter (has_number number) (λ x. not (has_number other x)) (orders_in book) (λ x i passes.
      ap not (has_not-number x other (λ same. differs (sym (eqb-true x.number number passes) ∙ same))))
      ∙ found

-- a book without an order is orderly
pub orderly-less : (book : List (List Resting)) (number : ℕ) → IsOrderly book → IsOrderly (without book number)
orderly-less book number orderly = record {
  each = λ line i.
      let old = from_map (line_without number) line book i in
      let own = orderly.each old.0 old.1 in
      subst IsSided (sym old.2) (record {
        side = own.side;
        strict = in_order-filter (resting_cmp own.side) (λ order. not (has_number number order)) old.0 own.strict;
        sided = λ x j. own.sided x (from_less number old.0 x j).0;
      });
  once = λ one other i j same. orderly.once one other (whole one i) (whole other j) same;
}
  where
    whole : (x : Resting) → IsIn x (orders_in (without book number)) → IsIn x (orders_in book)
    whole x i =
        let at = from_flat_map (λ (l : List Resting). l) x (without book number) i in
        let line = from_map (line_without number) at.0 book at.1 in
        IsIn-flat_map (λ l. l) line.0 x book line.1 (from_less number line.0 x (subst (IsIn x) line.2 at.2)).0

module _ (book : List (List Resting)) (orderly : IsOrderly book) (number : ℕ) (order : Resting) (found : order_of book number ≡ Some order) (lots moment : ℕ) where
  -- without another order the fill is one of the book without it
  pub filled-less : (other : ℕ) → number ≢ other → without (filled book number lots moment) other ≡ filled (without book other) number lots moment
  filled-less other differs =
      let change : Change = fill_of order lots moment in
      let is_number = numbered book orderly number order found lots moment in
      ap (λ b. without b other) (filled-by book orderly number order found lots moment)
      ∙ map-twice (line_without other) (line_after change) book
      ∙ map-same (λ line. line_without other (line_after change line)) (λ line. line_after change (line_without other line)) book (λ line i.
      let own = orderly.each line i in
      less-changed own.side change other line (fill-own book orderly number order found lots moment) (λ same. differs (sym is_number ∙ same))
      (fill-sided book orderly number order found lots moment line i own) own.strict)
      ∙ sym (map-twice (line_after change) (line_without other) book)
      ∙ sym (filled-by (without book other) (orderly-less book other orderly) number order (found-less book orderly number order found lots moment other differs) lots moment)

  -- so it is with an order in hand
  pub filled-hand : (hand : Option ℕ) → without_hand hand (filled book number lots moment) ≡ filled_beside hand number lots moment (without_hand hand book)
  filled-hand None = refl
  filled-hand (Some held) = go (held == number) refl
    where
      go : (b : Bool) → (held == number) ≡ b
          → without (filled book number lots moment) held ≡ (if b then without book held else filled (without book held) number lots moment)
      go true e =
          let same : held ≡ number = eqb-true held number e in
          ap (without (filled book number lots moment)) same ∙ filled-same book orderly number order found lots moment ∙ ap (without book) (sym same)
      go false e = filled-less held (λ same. true≢false (sym (eq-eqb held number (sym same)) ∙ e))

  -- and the order is found beside it
  pub found-hand : (hand : Option ℕ) → holds hand number ≡ false → order_of (without_hand hand book) number ≡ Some order
  found-hand None beside = found
  found-hand (Some held) beside =
      found-less book orderly number order found lots moment held (λ same. true≢false (sym (eq-eqb held number (sym same)) ∙ beside))
