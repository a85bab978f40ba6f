-- What a fill makes of the lines of a book.
use Rattle.std.proofs.Common.{◌≡◌, ◌≢◌, ◌∙◌, inl, inr, ℕ, zero, suc, ◌+◌, ◌/◌, ◌%◌, ◌≤◌, ◌==◌, Bool, true, false, List, [], ◌∷◌, ◌++◌, get_or, map, Option, Some, None, eq-eqb, eqb-true, refl, sym, ap, subst, if◌then◌else◌, arith}
use Rattle.std.proofs.lemmas.Bool.{false_from_ne_true, true≢false}
use Rattle.std.proofs.lemmas.List.Sorted.{ranks_by}
use Rattle.std.specs.Cmp.{IsStrictWeakOrder}
use Rattle.std.specs.List.{list_any}
use Rattle.std.specs.Ordering.{is_lt, nat_cmp, ordering_then}
use Rattle.std.specs.declared.cmp.Ordering.{Ordering}
use Rattle.std.specs.declared.cmp.Ordering.TheVariants.{Less, Equal, Greater}
use Rattle.order_kinds.specs.declared.side.Side.{Side}
use Rattle.order_kinds.specs.Order.{peak_price}
use Rattle.order_kinds.specs.Side.{price_cmp}
use Rattle.zone_graph.specs.InOrder.{IsStrictlyInOrder, put_in_order}
use Rattle.zone_graph.specs.Route.{IsIn}
use Rattle.zone_graph.proofs.InOrder.{in_order-ahead, in_order-behind, not_before-through}
use Rattle.zone_graph.proofs.Membership.{IsIn-left, IsIn-right}
use Rattle.iceberg_peak.proofs.PeakLemmas.{number-rises}
use Rattle.contract_book.specs.declared.resting.Ice.{Ice}
use Rattle.contract_book.specs.declared.resting.Resting.{Resting}
use Rattle.contract_book.specs.Book.{IsBook, changed_line, filled, has_number, line_number, line_of, line_without, order_of}
use Rattle.contract_book.specs.Priority.{resting_total}
use Rattle.contract_book.specs.Resting.{AgreesWith, IsSound, order_after, resting_cmp}
use Rattle.contract_book.proofs.BookShapes.{after-number, after-side, any-no, any-some, has-number, has_not-number, line_without-here, line_without-other}
use Rattle.contract_book.proofs.Told.{filled-emptied, filled-rest}
use Rattle.laws_of_boards.specs.Behind.{FillsStayBehind, FillsStayInTheirLine, behind_fill}
use Rattle.laws_of_boards.proofs.Rests.{later-price}

-- ---- priority

weak : (side : Side) → IsStrictWeakOrder (λ (a b : Resting). is_lt (resting_cmp side a b))
weak side = ranks_by (resting_total side) (λ (order : Resting). order)

not_earlier : (m n number : ℕ) → m ≤ n → is_lt (ordering_then (nat_cmp n m) (nat_cmp number number)) ≡ false
not_earlier m n number least = grind (arith, least)

itself-not : (side : Side) (order : Resting) → is_lt (resting_cmp side order order) ≡ false
itself-not side order =
    false_from_ne_true (is_lt (resting_cmp side order order)) (λ h. true≢false (sym h ∙ (weak side).one_way order order h))

by_price : (r t : Ordering) → is_lt r ≡ false → is_lt t ≡ false → is_lt (ordering_then r t) ≡ false
by_price Less t no_price no_time = absurd (true≢false no_price)
by_price Equal t no_price no_time = no_time
by_price Greater t no_price no_time = refl

no_sooner : (b : Bool) (m n : ℕ) → m ≤ n → m ≤ (if b then n else m)
no_sooner true m n least = least
no_sooner false m n least = omega arith

-- an order with some of it filled does not go before what it was
pub not_before-old : (side : Side) (order : Resting) (lots moment : ℕ) → order.side ≡ side → IsSound order → order.moment ≤ moment
    → is_lt (resting_cmp side (order_after order lots moment) order) ≡ false
not_before-old side order lots moment on_side sound least = go order.ice refl sound.1
  where
    go : (ice : Option Ice) → order.ice ≡ ice → AgreesWith order ice → is_lt (resting_cmp side (order_after order lots moment) order) ≡ false
    go None is agrees = rw is (itself-not side order)
    go (Some ice) is agrees =
        let rises = number-rises ice.peak ice.filled (ice.filled + lots) agrees.some (omega arith) in
        let own = later-price order.side ice.price ice.delta (ice.filled / ice.peak) ((ice.filled + lots) / ice.peak) rises in
        let price : is_lt (price_cmp side (peak_price order.side ice.price ice.delta ((ice.filled + lots) / ice.peak)) order.price) ≡ false =
        subst (λ p. is_lt (price_cmp side (peak_price order.side ice.price ice.delta ((ice.filled + lots) / ice.peak)) p) ≡ false) (sym agrees.price_is)
        (subst (λ s. is_lt (price_cmp s (peak_price order.side ice.price ice.delta ((ice.filled + lots) / ice.peak)) (peak_price order.side ice.price ice.delta (ice.filled / ice.peak))) ≡ false) on_side own) in
        let time = not_earlier order.moment (if (ice.filled + lots) % ice.peak == 0 then moment else order.moment) order.number
        (no_sooner ((ice.filled + lots) % ice.peak == 0) order.moment moment least) in
        rw is (by_price (price_cmp side (peak_price order.side ice.price ice.delta ((ice.filled + lots) / ice.peak)) order.price) _ price time)

-- ---- lines

-- an item put behind those that it does not go before
pub put-behind : {X : Type 0} (cmp : X → X → Ordering) (front back : List X) (x : X) → ((y : X) → IsIn y front → is_lt (cmp x y) ≡ false)
    → put_in_order cmp (front ++ back) x ≡ front ++ put_in_order cmp back x
put-behind cmp [] back x behind = refl
put-behind cmp (y ∷ front) back x behind = rw (behind y (inl refl)) (ap (λ ys. y ∷ ys) (put-behind cmp front back x (λ z i. behind z (inr i))))

-- what is made of each line of a book
get-map : (f : List Resting → List Resting) (xs : List (List Resting)) (k : ℕ) → f [] ≡ [] → get_or (map f xs) k [] ≡ f (get_or xs k [])
get-map f [] k none = sym none
get-map f (x ∷ xs) zero none = refl
get-map f (x ∷ xs) (suc k) none = get-map f xs k none

module _ (book : List (List Resting)) (is_book : IsBook book) (order : Resting) (found : order_of book order.number ≡ Some order) (lots moment : ℕ) where
  abbrev rest : Resting
  rest = order_after order lots moment

  -- the lines after a fill
  filled-line : (part : ℕ) (side : Side) → line_of (filled book order.number lots moment) part side
      ≡ (if order.left == lots then line_without order.number (line_of book part side) else changed_line rest (line_of book part side))
  filled-line part side = go (order.left == lots) refl
    where
      go : (b : Bool) → (order.left == lots) ≡ b → line_of (filled book order.number lots moment) part side
          ≡ (if b then line_without order.number (line_of book part side) else changed_line rest (line_of book part side))
      go true e =
          ap (λ b. line_of b part side) (filled-emptied book order.number order found lots moment (eqb-true order.left lots e))
          ∙ get-map (line_without order.number) book (line_number part side) refl
      go false e =
          ap (λ b. line_of b part side) (filled-rest book order.number order found lots moment (λ all. true≢false (sym (eq-eqb order.left lots all) ∙ e)))
          ∙ get-map (changed_line rest) book (line_number part side) refl

  -- where the order does not stand, the line is as it was
  line-kept : (line : List Resting) → ((y : Resting) → IsIn y line → y.number ≢ order.number)
      → (if order.left == lots then line_without order.number line else changed_line rest line) ≡ line
  line-kept line none = go (order.left == lots)
    where
      absent : list_any (has_number order.number) line ≡ false
      absent = any-no (has_number order.number) line (λ y i. has_not-number y order.number (none y i))

      go : (b : Bool) → (if b then line_without order.number line else changed_line rest line) ≡ line
      go true = line_without-other order.number line absent
      go false =
          ap (λ t. if t then put_in_order (resting_cmp rest.side) (line_without rest.number line) rest else line)
          (ap (λ n. list_any (has_number n) line) (after-number order lots moment) ∙ absent)

  module _ (part : ℕ) (side : Side) (front back : List Resting) (stands : line_of book part side ≡ front ++ (order ∷ back)) (least : order.moment ≤ moment) where
    strict : IsStrictlyInOrder (resting_cmp side) (front ++ (order ∷ back))
    strict = subst (IsStrictlyInOrder (resting_cmp side)) stands (is_book.sorted part side)

    in_line : (y : Resting) → IsIn y (front ++ (order ∷ back)) → IsIn y (line_of book part side)
    in_line y i = subst (IsIn y) (sym stands) i

    own : IsIn order (line_of book part side)
    own = in_line order (IsIn-right order front (order ∷ back) (inl refl))

    one : (y : Resting) → IsIn y (front ++ (order ∷ back)) → y.number ≡ order.number → y ≡ order
    one y i same = (is_book.once part part side side y order (in_line y i) own same).2

    ahead : (y : Resting) → IsIn y front → is_lt (resting_cmp side y order) ≡ true
    ahead y i = in_order-ahead (resting_cmp side) front back order strict y i

    front-other : (y : Resting) → IsIn y front → y.number ≢ order.number
    front-other y i same =
        true≢false (sym (ahead y i) ∙ ap (λ z. is_lt (resting_cmp side z order)) (one y (IsIn-left y front (order ∷ back) i) same) ∙ itself-not side order)

    back-other : (y : Resting) → IsIn y back → y.number ≢ order.number
    back-other y i same =
        true≢false (sym (in_order-behind (resting_cmp side) front back order strict y i)
        ∙ ap (λ z. is_lt (resting_cmp side order z)) (one y (IsIn-right y front (order ∷ back) (inr i)) same) ∙ itself-not side order)

    less : line_without order.number (front ++ (order ∷ back)) ≡ front ++ back
    less = line_without-here front back order front-other back-other

    on_side : order.side ≡ side
    on_side = is_book.sided part side order own

    -- its new record stands behind those that were in front of it
    behind : (y : Resting) → IsIn y front → is_lt (resting_cmp side rest y) ≡ false
    behind y i =
        not_before-through (resting_cmp side) (weak side) rest order y
        (not_before-old side order lots moment on_side (is_book.sound part side order own) least) (ahead y i)

    put : changed_line rest (front ++ (order ∷ back)) ≡ front ++ put_in_order (resting_cmp side) back rest
    put =
        ap (λ t. if t then put_in_order (resting_cmp rest.side) (line_without rest.number (front ++ (order ∷ back))) rest else (front ++ (order ∷ back)))
        (any-some (has_number rest.number) order (front ++ (order ∷ back)) (IsIn-right order front (order ∷ back) (inl refl)) (has-number order rest.number (sym (after-number order lots moment))))
        ∙ ap (λ s. put_in_order (resting_cmp s) (line_without rest.number (front ++ (order ∷ back))) rest) (after-side order lots moment ∙ on_side)
        ∙ ap (λ l. put_in_order (resting_cmp side) l rest) (ap (λ n. line_without n (front ++ (order ∷ back))) (after-number order lots moment) ∙ less)
        ∙ put-behind (resting_cmp side) front back rest behind

    pub stays-behind : line_of (filled book order.number lots moment) part side ≡ front ++ behind_fill side order back lots moment
    stays-behind =
        filled-line part side
        ∙ ap (λ line. if order.left == lots then line_without order.number line else changed_line rest line) stands
        ∙ go (order.left == lots)
      where
        go : (b : Bool) → (if b then line_without order.number (front ++ (order ∷ back)) else changed_line rest (front ++ (order ∷ back)))
            ≡ front ++ (if b then back else put_in_order (resting_cmp side) back rest)
        go true = less
        go false = put

  pub stays-apart : (part : ℕ) (side : Side) (other : ℕ) (opposite : Side) → IsIn order (line_of book part side) → ((other ≡ part) × (opposite ≡ side) → ⊥)
      → line_of (filled book order.number lots moment) other opposite ≡ line_of book other opposite
  stays-apart part side other opposite own apart =
      filled-line other opposite
      ∙ line-kept (line_of book other opposite) (λ y i same. let is = is_book.once other part opposite side y order i own same in apart (is.0, is.1))

pub stay_behind : FillsStayBehind
stay_behind book part side front back order lots moment is_book stands found least = stays-behind book is_book order found lots moment part side front back stands least

pub stay_in_line : FillsStayInTheirLine
stay_in_line book part side order lots moment other opposite is_book own found apart = stays-apart book is_book order found lots moment part side other opposite own apart
