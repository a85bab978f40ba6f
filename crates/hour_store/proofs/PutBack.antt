-- Items that are left out of a list in order, and put into it again.
use Rattle.std.proofs.Common.{◌≡◌, ◌∙◌, inl, inr, suc, Bool, true, false, cond, List, [], ◌∷◌, ◌++◌, length, map, filter, refl, sym, ap, subst, if◌then◌else◌}
use Rattle.std.proofs.lemmas.Bool.{true≢false}
use Rattle.std.specs.Cmp.{IsStrictWeakOrder}
use Rattle.std.specs.Ordering.{is_lt}
use Rattle.std.specs.declared.cmp.Ordering.{Ordering}
use Rattle.zone_graph.specs.InOrder.{IsStrictlyInOrder, put_in_order}
use Rattle.zone_graph.specs.Route.{IsIn}
use Rattle.zone_graph.proofs.InOrder.{in_order-ahead, in_order-behind, put_in_order-between}

module _ {X : Type 0} (p : X → Bool) where
  -- what is left out once is left out
  pub filter-twice : (xs : List X) → filter p (filter p xs) ≡ filter p xs
  filter-twice [] = refl
  filter-twice (x ∷ xs) = go (p x) refl (filter-twice xs)
    where
      go : (b : Bool) → p x ≡ b → filter p (filter p xs) ≡ filter p xs → filter p (filter p (x ∷ xs)) ≡ filter p (x ∷ xs)
      go true e rest = rw e (rw e (ap (λ l. x ∷ l) rest))
      go false e rest = rw e rest

  -- where all items pass, nothing is
  pub filter-all : (xs : List X) → ((y : X) → IsIn y xs → p y ≡ true) → filter p xs ≡ xs
  filter-all [] each = refl
  filter-all (x ∷ xs) each = rw (each x (inl refl)) (ap (λ l. x ∷ l) (filter-all xs (λ y i. each y (inr i))))

  -- one item is
  pub filter-here : (front back : List X) (x : X) → p x ≡ false → ((y : X) → IsIn y front → p y ≡ true) → ((y : X) → IsIn y back → p y ≡ true) → filter p (front ++ x ∷ back) ≡ front ++ back
  filter-here [] back x fails ahead behind = rw fails (filter-all back behind)
  filter-here (y ∷ front) back x fails ahead behind =
      rw (ahead y (inl refl)) (ap (λ l. y ∷ l) (filter-here front back x fails (λ z i. ahead z (inr i)) behind))

  -- an item that is put in order and left out
  pub filter-put : (cmp : X → X → Ordering) (ys : List X) (x : X) → p x ≡ false → filter p (put_in_order cmp ys x) ≡ filter p ys
  filter-put cmp [] x fails = rw fails refl
  filter-put cmp (y ∷ ys) x fails =
      elim (is_lt (cmp x y)) as (λ b. filter p (if b then (x ∷ y ∷ ys) else (y ∷ put_in_order cmp ys x)) ≡ filter p (y ∷ ys)) [
        | true ↦ rw fails refl
        | false ↦ ap (λ l. cond (p y) (y ∷ l) l) (filter-put cmp ys x fails)
      ]

-- an item put in order is one more
pub length-put : {X : Type 0} (cmp : X → X → Ordering) (ys : List X) (x : X) → length (put_in_order cmp ys x) ≡ suc (length ys)
length-put cmp [] x = refl
length-put cmp (y ∷ ys) x =
    elim (is_lt (cmp x y)) as (λ b. length (if b then (x ∷ y ∷ ys) else (y ∷ put_in_order cmp ys x)) ≡ suc (suc (length ys))) [
      | true ↦ refl
      | false ↦ ap suc (length-put cmp ys x)
    ]

-- what stands before an item and behind it
pub cut-at : {X : Type 0} (x : X) (xs : List X) → IsIn x xs → (front : List X) × (back : List X) × (xs ≡ front ++ x ∷ back)
cut-at x [] i = absurd i
cut-at {X} x (y ∷ xs) i = elim i [
  | inl same ↦ ([], xs, ap (λ z. z ∷ xs) (sym same))
  | inr j ↦ let rest = cut-at x xs j in (y ∷ rest.0, rest.1, ap (λ l. y ∷ l) rest.2)
]

module _ {X : Type 0} (cmp : X → X → Ordering) (o : IsStrictWeakOrder (λ (x y : X). is_lt (cmp x y))) (p : X → Bool) where
  split : (front back : List X) (x : X) → IsStrictlyInOrder cmp (front ++ x ∷ back) → p x ≡ false
      → ((y : X) → IsIn y (front ++ x ∷ back) → p y ≡ false → y ≡ x) → put_in_order cmp (filter p (front ++ x ∷ back)) x ≡ front ++ x ∷ back
  split front back x strict fails only =
      ap (λ l. put_in_order cmp l x) (filter-here p front back x fails
      (λ y i. passes y (in_front y front i) (λ same. not_before y (in_order-ahead cmp front back x strict y i) same))
      (λ y i. passes y (in_back y front i) (λ same. not_after y (in_order-behind cmp front back x strict y i) same)))
      ∙ put_in_order-between cmp front back x
      (λ y i. o.one_way y x (in_order-ahead cmp front back x strict y i))
      (λ y i. in_order-behind cmp front back x strict y i)
    where
      in_front : (y : X) (ahead : List X) → IsIn y ahead → IsIn y (ahead ++ x ∷ back)
      in_front y [] i = absurd i
      in_front y (z ∷ ahead) i = elim i [ inl same ↦ inl same | inr j ↦ inr (in_front y ahead j) ]

      in_back : (y : X) (ahead : List X) → IsIn y back → IsIn y (ahead ++ x ∷ back)
      in_back y [] i = inr i
      in_back y (z ∷ ahead) i = inr (in_back y ahead i)

      itself : is_lt (cmp x x) ≡ true → ⊥
      itself before = true≢false (sym before ∙ o.one_way x x before)

      not_before : (y : X) → is_lt (cmp y x) ≡ true → y ≡ x → ⊥
      not_before y before same = itself (ap (λ z. is_lt (cmp z x)) (sym same) ∙ before)

      not_after : (y : X) → is_lt (cmp x y) ≡ true → y ≡ x → ⊥
      not_after y before same = itself (ap (λ z. is_lt (cmp x z)) (sym same) ∙ before)

      passes : (y : X) → IsIn y (front ++ x ∷ back) → (y ≡ x → ⊥) → p y ≡ true
      passes y i differs = by (p y) refl
        where
          by : (b : Bool) → p y ≡ b → b ≡ true
          by true e = refl
          by false e = absurd (differs (only y i e))

  -- an item that alone fails, left out and put in order again, is where it was
  pub put-restores : (xs : List X) (x : X) → IsStrictlyInOrder cmp xs → IsIn x xs → p x ≡ false → ((y : X) → IsIn y xs → p y ≡ false → y ≡ x) → put_in_order cmp (filter p xs) x ≡ xs
  put-restores xs x strict i fails only =
      let cut = cut-at x xs i in
      ap (λ l. put_in_order cmp (filter p l) x) cut.2
      ∙ split cut.0 cut.1 x (subst (IsStrictlyInOrder cmp) cut.2 strict) fails (λ y j. only y (subst (IsIn y) (sym cut.2) j))
      ∙ sym cut.2

-- what a change of lists that another one hides makes of them
pub map-hides : {X : Type 0} (f g : X → X) (xs : List X) → ((x : X) → f (g x) ≡ f x) → map f (map g xs) ≡ map f xs
map-hides f g [] hides = refl
map-hides f g (x ∷ xs) hides = ap (λ y. y ∷ map f (map g xs)) (hides x) ∙ ap (λ l. f x ∷ l) (map-hides f g xs hides)
