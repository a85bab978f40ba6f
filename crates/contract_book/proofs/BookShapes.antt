-- What the calls of a book make of its lines, said of the lines alone.
use Rattle.std.proofs.Common.{◌≡◌, ◌≢◌, ◌∙◌, inl, inr, ℕ, zero, suc, ◌<◌, ◌==◌, ◌||◌, Bool, true, false, List, [], ◌∷◌, ◌++◌, length, set, get_or, map, Option, Some, None, refl, sym, ap, arith, eq-eqb, eqb-true, if◌then◌else◌}
use Rattle.std.proofs.lemmas.Bool.{cases_eq, true≢false}
use Rattle.std.proofs.lemmas.List.{get_or-set_same, get_or-set_other, length-set, ext_get_or, get_or-map, length-map}
use Rattle.std.specs.List.{find, list_any}
use Rattle.zone_graph.specs.InOrder.{put_in_order}
use Rattle.zone_graph.specs.Route.{IsIn}
use Rattle.contract_book.specs.declared.resting.Ice.{Ice}
use Rattle.contract_book.specs.declared.resting.Resting.{Resting}
use Rattle.contract_book.specs.Book.{changed, changed_line, has_number, line_without, without}
use Rattle.contract_book.specs.Resting.{order_after, resting_cmp}

pub set-twice : {X : Type 0} (xs : List X) (k : ℕ) (a b : X) → set (set xs k a) k b ≡ set xs k b
set-twice [] k a b = refl
set-twice (x ∷ xs) zero a b = refl
set-twice (x ∷ xs) (suc k) a b = ap (λ ys. x ∷ ys) (set-twice xs k a b)

-- what is found, where one item alone passes
pub find-only : {X : Type 0} (p : X → Bool) (x : X) (xs : List X) → IsIn x xs → p x ≡ true → ((y : X) → IsIn y xs → p y ≡ true → y ≡ x) → find p xs ≡ Some x
find-only p x [] i passes only = absurd i
find-only {X} p x (y ∷ xs) i passes only = go (λ j. find-only p x xs j passes (λ z k. only z (inr k))) (p y) refl
  where
    later : (p y ≡ false) → IsIn x xs
    later fails = elim i [ inl same ↦ absurd (true≢false (sym passes ∙ ap p same ∙ fails)) | inr j ↦ j ]

    go : (IsIn x xs → find p xs ≡ Some x) → (b : Bool) → p y ≡ b → find p (y ∷ xs) ≡ Some x
    go rest true e = rw e (ap Some (only y (inl refl) e))
    go rest false e = rw e (rest (later e))

pub find-no : {X : Type 0} (p : X → Bool) (xs : List X) → ((y : X) → IsIn y xs → p y ≡ false) → find p xs ≡ None
find-no p [] none = refl
find-no p (y ∷ xs) none = rw (none y (inl refl)) (find-no p xs (λ z j. none z (inr j)))

pub any-no : {X : Type 0} (p : X → Bool) (xs : List X) → ((y : X) → IsIn y xs → p y ≡ false) → list_any p xs ≡ false
any-no p [] none = refl
any-no p (y ∷ xs) none = rw (none y (inl refl)) (any-no p xs (λ z j. none z (inr j)))

pub any-some : {X : Type 0} (p : X → Bool) (x : X) (xs : List X) → IsIn x xs → p x ≡ true → list_any p xs ≡ true
any-some p x [] i passes = absurd i
any-some p x (y ∷ xs) (inl same) passes = rw (ap p (sym same) ∙ passes) refl
any-some p x (y ∷ xs) (inr i) passes = or-true (p y) (any-some p x xs i passes)
  where
    or-true : (b : Bool) {c : Bool} → c ≡ true → (b || c) ≡ true
    or-true true e = refl
    or-true false e = e

pub has-number : (order : Resting) (number : ℕ) → order.number ≡ number → has_number number order ≡ true
has-number order number is = eq-eqb order.number number is

pub has_not-number : (order : Resting) (number : ℕ) → order.number ≢ number → has_number number order ≡ false
has_not-number order number differs = go (order.number == number) refl
  where
    go : (b : Bool) → (order.number == number) ≡ b → b ≡ false
    go true e = absurd (differs (eqb-true order.number number e))
    go false e = refl

-- a line in which the number does not stand
pub line_without-other : (number : ℕ) (line : List Resting) → list_any (has_number number) line ≡ false → line_without number line ≡ line
line_without-other number [] none = refl
line_without-other number (order ∷ line) none = go (line_without-other number line) (has_number number order) refl
  where
    go : (list_any (has_number number) line ≡ false → line_without number line ≡ line) → (b : Bool) → has_number number order ≡ b → line_without number (order ∷ line) ≡ order ∷ line
    go rest true e = absurd (true≢false (sym (ap (λ b. b || list_any (has_number number) line) e) ∙ none))
    go rest false e = rw e (ap (λ l. order ∷ l) (rest (sym (ap (λ b. b || list_any (has_number number) line) e) ∙ none)))

-- and one in which it does
pub line_without-here : (front back : List Resting) (order : Resting) → ((y : Resting) → IsIn y front → y.number ≢ order.number) → ((y : Resting) → IsIn y back → y.number ≢ order.number)
    → line_without order.number (front ++ order ∷ back) ≡ front ++ back
line_without-here [] back order no_front no_back =
    rw (has-number order order.number refl) (line_without-other order.number back (any-no (has_number order.number) back (λ y i. has_not-number y order.number (no_back y i))))
line_without-here (first ∷ front) back order no_front no_back =
    rw (has_not-number first order.number (no_front first (inl refl))) (ap (λ l. first ∷ l) (line_without-here front back order (λ y i. no_front y (inr i)) no_back))

-- the number stands in one line alone
pub record IsAlone (book : List (List Resting)) (number k : ℕ) : Type 0 where
  pub within : k < length book
  pub here : list_any (has_number number) (get_or book k []) ≡ true
  pub others : (i : ℕ) → i < length book → i ≢ k → list_any (has_number number) (get_or book i []) ≡ false

module _ (f : List Resting → List Resting) (book : List (List Resting)) (k : ℕ) (within : k < length book) where
  -- a change that leaves all lines but one is a change of that one
  pub map-at : ((i : ℕ) → i < length book → i ≢ k → f (get_or book i []) ≡ get_or book i []) → map f book ≡ set book k (f (get_or book k []))
  map-at kept =
      let none : List Resting = [] in
      ext_get_or none (map f book) (set book k (f (get_or book k none))) (length-map book f ∙ sym (length-set book k (f (get_or book k none)))) (λ i low.
      let inside : i < length book = omega (arith, low, length-map book f) in
      get_or-map f book i none none inside ∙ elim (cases_eq i k) [
        | inl is ↦ ap (λ j. f (get_or book j none)) is ∙ sym (ap (λ j. get_or (set book k (f (get_or book k none))) j none) is ∙ get_or-set_same book k (f (get_or book k none)) none within)
        | inr differs ↦ kept i inside differs ∙ sym (get_or-set_other book k i (f (get_or book k none)) none differs)
      ])

module _ (book : List (List Resting)) (number k : ℕ) (alone : IsAlone book number k) where
  -- the book without the order
  pub without-at : without book number ≡ set book k (line_without number (get_or book k []))
  without-at = map-at (line_without number) book k alone.within (λ i low differs. line_without-other number (get_or book i []) (alone.others i low differs))

  -- the book with another record of it
  pub changed-at : (order : Resting) → order.number ≡ number
      → changed book order ≡ set book k (put_in_order (resting_cmp order.side) (line_without number (get_or book k [])) order)
  changed-at order is =
      map-at (changed_line order) book k alone.within (λ i low differs.
      ap (λ b. if b then put_in_order (resting_cmp order.side) (line_without order.number (get_or book i [])) order else get_or book i []) (ap (λ n. list_any (has_number n) (get_or book i [])) is ∙ alone.others i low differs))
      ∙ ap (set book k) (
      ap (λ b. if b then put_in_order (resting_cmp order.side) (line_without order.number (get_or book k [])) order else get_or book k []) (ap (λ n. list_any (has_number n) (get_or book k [])) is ∙ alone.here)
      ∙ ap (λ n. put_in_order (resting_cmp order.side) (line_without n (get_or book k [])) order) is
      )

  -- taken out and put in priority again, an order is changed
  pub changed-again : (order : Resting) → order.number ≡ number → (less : List (List Resting)) → less ≡ without book number
      → set less k (put_in_order (resting_cmp order.side) (get_or less k []) order) ≡ changed book order
  changed-again order is less less_is =
      let at : less ≡ set book k (line_without number (get_or book k [])) = less_is ∙ without-at in
      let here : get_or less k [] ≡ line_without number (get_or book k []) = ap (λ b. get_or b k []) at ∙ get_or-set_same book k (line_without number (get_or book k [])) [] alone.within in
      ap (λ l. set less k (put_in_order (resting_cmp order.side) l order)) here
      ∙ ap (λ b. set b k (put_in_order (resting_cmp order.side) (line_without number (get_or book k [])) order)) at
      ∙ set-twice book k (line_without number (get_or book k [])) (put_in_order (resting_cmp order.side) (line_without number (get_or book k [])) order)
      ∙ sym (changed-at order is)

-- where the number stands in no line, nothing is left out
pub without-none : (book : List (List Resting)) (number : ℕ) → ((i : ℕ) → i < length book → list_any (has_number number) (get_or book i []) ≡ false) → without book number ≡ book
without-none [] number none = refl
without-none (line ∷ book) number none =
    let first = line_without-other number line (none 0 (omega arith)) in
    let rest = without-none book number (λ i low. none (suc i) (omega (arith, low))) in
    ap (λ l. l ∷ without book number) first ∙ ap (λ b. line ∷ b) rest

-- an order with some of it filled has its number and its side
pub after-number : (order : Resting) (lots moment : ℕ) → (order_after order lots moment).number ≡ order.number
after-number order lots moment = go order.ice refl
  where
    go : (ice : Option Ice) → order.ice ≡ ice → (order_after order lots moment).number ≡ order.number
    go None is = rw is refl
    go (Some ice) is = rw is refl

pub after-side : (order : Resting) (lots moment : ℕ) → (order_after order lots moment).side ≡ order.side
after-side order lots moment = go order.ice refl
  where
    go : (ice : Option Ice) → order.ice ≡ ice → (order_after order lots moment).side ≡ order.side
    go None is = rw is refl
    go (Some ice) is = rw is refl
