-- What holds of lists in order.
use Rattle.std.proofs.Common.{◌≡◌, ◌∙◌, ◌⊎◌, inl, inr, Bool, true, false, cond, List, [], ◌∷◌, ◌++◌, filter, map, refl, sym, ap, subst, if◌then◌else◌}
use Rattle.std.proofs.lemmas.Bool.{true≢false}
use Rattle.std.specs.Cmp.{IsStrictWeakOrder}
use Rattle.std.specs.Ordering.{is_lt}
use Rattle.std.specs.declared.cmp.Ordering.{Ordering}
use Rattle.zone_graph.specs.InOrder.{put_in_order, IsStrictlyInOrder}
use Rattle.zone_graph.specs.Route.{IsIn}
use Rattle.zone_graph.proofs.Membership.{from_filter, from_map, IsIn-left, IsIn-right}

-- what is in a list into which an item is put in order is the item or was there
pub from_put_in_order : {X : Type 0} (cmp : X → X → Ordering) (z : X) (ys : List X) (x : X) → IsIn z (put_in_order cmp ys x) → (z ≡ x) ⊎ IsIn z ys
from_put_in_order cmp z [] x h = elim h [ inl e ↦ inl e | inr i ↦ absurd i ]
from_put_in_order cmp z (y ∷ ys) x h =
    elim (is_lt (cmp x y)) as (λ b. IsIn z (if b then (x ∷ y ∷ ys) else (y ∷ put_in_order cmp ys x)) → (z ≡ x) ⊎ IsIn z (y ∷ ys)) [
      | true ↦ λ k. elim k [ inl e ↦ inl e | inr i ↦ inr i ]
      | false ↦ λ k. elim k [
        | inl e ↦ inr (inl e)
        | inr i ↦ elim (from_put_in_order cmp z ys x i) [ inl e ↦ inl e | inr j ↦ inr (inr j) ]
      ]
    ] h

pub IsIn-put_in_order : {X : Type 0} (cmp : X → X → Ordering) (z : X) (ys : List X) (x : X) → (z ≡ x) ⊎ IsIn z ys → IsIn z (put_in_order cmp ys x)
IsIn-put_in_order cmp z [] x h = h
IsIn-put_in_order cmp z (y ∷ ys) x h =
    elim (is_lt (cmp x y)) as (λ b. IsIn z (if b then (x ∷ y ∷ ys) else (y ∷ put_in_order cmp ys x))) [
      | true ↦ elim h [ inl e ↦ inl e | inr i ↦ inr i ]
      | false ↦ elim h [
        | inl e ↦ inr (IsIn-put_in_order cmp z ys x (inl e))
        | inr i ↦ elim i [ inl e ↦ inl e | inr j ↦ inr (IsIn-put_in_order cmp z ys x (inr j)) ]
      ]
    ]

module _ {X : Type 0} (cmp : X → X → Ordering) where
  -- an item comes before another
  abbrev pub is_before : X → X → Bool
  is_before x y = is_lt (cmp x y)

  -- between items that it does not come before and items that it comes before an item is put
  pub put_in_order-between : (front back : List X) (x : X) → ((y : X) → IsIn y front → is_before x y ≡ false) → ((y : X) → IsIn y back → is_before x y ≡ true)
      → put_in_order cmp (front ++ back) x ≡ front ++ x ∷ back
  put_in_order-between [] [] x behind ahead = refl
  put_in_order-between [] (y ∷ back) x behind ahead = rw (ahead y (inl refl)) refl
  put_in_order-between (y ∷ front) back x behind ahead =
      rw (behind y (inl refl)) (ap (λ ys. y ∷ ys) (put_in_order-between front back x (λ z i. behind z (inr i)) ahead))

  -- the parts of a list in order
  pub in_order-behind : (front back : List X) (x : X) → IsStrictlyInOrder cmp (front ++ x ∷ back) → (y : X) → IsIn y back → is_before x y ≡ true
  in_order-behind [] back x strict y i = strict.0 y i
  in_order-behind (z ∷ front) back x strict y i = in_order-behind front back x strict.1 y i

  pub in_order-ahead : (front back : List X) (x : X) → IsStrictlyInOrder cmp (front ++ x ∷ back) → (y : X) → IsIn y front → is_before y x ≡ true
  in_order-ahead [] back x strict y i = absurd i
  in_order-ahead (z ∷ front) back x strict y i = elim i [
    | inl same ↦ rw same (strict.0 x (IsIn-right x front (x ∷ back) (inl refl)))
    | inr later ↦ in_order-ahead front back x strict.1 y later
  ]

  -- an item less
  pub in_order-without : (front back : List X) (x : X) → IsStrictlyInOrder cmp (front ++ x ∷ back) → IsStrictlyInOrder cmp (front ++ back)
  in_order-without [] back x strict = strict.1
  in_order-without (y ∷ front) back x strict = (
    λ z i. strict.0 z (elim (split z front back i) [ inl l ↦ IsIn-left z front (x ∷ back) l | inr r ↦ IsIn-right z front (x ∷ back) (inr r) ]),
    in_order-without front back x strict.1,
  )
    where
      split : (z : X) (front back : List X) → IsIn z (front ++ back) → IsIn z front ⊎ IsIn z back
      split z [] back i = inr i
      split z (w ∷ front) back i = elim i [ inl e ↦ inl (inl e) | inr j ↦ elim (split z front back j) [ inl l ↦ inl (inr l) | inr r ↦ inr r ] ]

  -- an item more, between those that come before it and those that come behind
  pub in_order-between : (front back : List X) (x : X) → IsStrictlyInOrder cmp (front ++ back) → ((y : X) → IsIn y front → is_before y x ≡ true) → ((y : X) → IsIn y back → is_before x y ≡ true)
      → IsStrictlyInOrder cmp (front ++ x ∷ back)
  in_order-between [] back x strict behind ahead = (ahead, strict)
  in_order-between (z ∷ front) back x strict behind ahead = (
    λ y i. among y i,
    in_order-between front back x strict.1 (λ y i. behind y (inr i)) ahead,
  )
    where
      among : (y : X) → IsIn y (front ++ x ∷ back) → is_before z y ≡ true
      among y i = elim (parts front i) [
        | inl l ↦ strict.0 y (IsIn-left y front back l)
        | inr r ↦ elim r [ inl e ↦ rw e (behind z (inl refl)) | inr j ↦ strict.0 y (IsIn-right y front back j) ]
      ]
        where
          parts : (xs : List X) → IsIn y (xs ++ x ∷ back) → IsIn y xs ⊎ IsIn y (x ∷ back)
          parts [] k = inr k
          parts (w ∷ xs) k = elim k [ inl e ↦ inl (inl e) | inr j ↦ elim (parts xs j) [ inl l ↦ inl (inr l) | inr r ↦ inr r ] ]

  -- what is left out leaves the rest in order
  pub in_order-filter : (p : X → Bool) (xs : List X) → IsStrictlyInOrder cmp xs → IsStrictlyInOrder cmp (filter p xs)
  in_order-filter p [] strict = tt
  in_order-filter p (x ∷ xs) strict = go (p x) (in_order-filter p xs strict.1)
    where
      go : (b : Bool) → IsStrictlyInOrder cmp (filter p xs) → IsStrictlyInOrder cmp (cond b (x ∷ filter p xs) (filter p xs))
      go true rest = (λ y i. strict.0 y (from_filter p y xs i).0, rest)
      go false rest = rest

module _ {X : Type 0} (cmp : X → X → Ordering) (o : IsStrictWeakOrder (λ (x y : X). is_lt (cmp x y))) where
  before-itself : (x : X) → is_before cmp x x ≡ true → ⊥
  before-itself x before = true≢false (sym before ∙ o.one_way x x before)

  -- what comes before an item comes before all that this one comes before
  pub before-through : (x y z : X) → is_before cmp x y ≡ true → is_before cmp y z ≡ true → is_before cmp x z ≡ true
  before-through x y z first second = go (is_before cmp x z) refl
    where
      go : (b : Bool) → is_before cmp x z ≡ b → b ≡ true
      go true e = refl
      go false e = absurd (true≢false (sym first ∙ o.chain x z y e (o.one_way y z second)))

  -- what does not come before an item does not come before what stands ahead of that one
  pub not_before-through : (x y z : X) → is_before cmp x y ≡ false → is_before cmp z y ≡ true → is_before cmp x z ≡ false
  not_before-through x y z first second = o.chain x y z first (o.one_way z y second)

  -- an item put in order among others
  pub in_order-put : (ys : List X) (x : X) → IsStrictlyInOrder cmp ys → ((y : X) → IsIn y ys → is_before cmp x y ≡ false → is_before cmp y x ≡ true) → IsStrictlyInOrder cmp (put_in_order cmp ys x)
  in_order-put [] x strict apart = (λ y i. absurd i, tt)
  in_order-put (y ∷ ys) x strict apart = go (is_before cmp x y) refl (in_order-put ys x strict.1 (λ z i. apart z (inr i)))
    where
      go : (b : Bool) → is_before cmp x y ≡ b → IsStrictlyInOrder cmp (put_in_order cmp ys x) → IsStrictlyInOrder cmp (if b then (x ∷ y ∷ ys) else (y ∷ put_in_order cmp ys x))
      go true e rest = (λ z i. elim i [ inl same ↦ rw same e | inr j ↦ before-through x y z e (strict.0 z j) ], strict)
      go false e rest = (λ z i. elim (from_put_in_order cmp z ys x i) [ inl same ↦ rw same (apart y (inl refl) e) | inr j ↦ strict.0 z j ], rest)

  -- two lists in order of the same items are one
  pub in_order-one : (xs ys : List X) → IsStrictlyInOrder cmp xs → IsStrictlyInOrder cmp ys → ((x : X) → IsIn x xs → IsIn x ys) → ((y : X) → IsIn y ys → IsIn y xs) → xs ≡ ys
  in_order-one [] [] strict strict_too there back = refl
  in_order-one [] (y ∷ ys) strict strict_too there back = absurd (back y (inl refl))
  in_order-one (x ∷ xs) [] strict strict_too there back = absurd (there x (inl refl))
  in_order-one (x ∷ xs) (y ∷ ys) strict strict_too there back =
      let same : x ≡ y = heads (there x (inl refl)) (back y (inl refl)) in
      let rest : xs ≡ ys = in_order-one xs ys strict.1 strict_too.1 (λ z i. tail z i (there z (inr i))) (λ z i. tail_too z i (back z (inr i))) in
      ap (λ z. z ∷ xs) same ∙ ap (λ zs. y ∷ zs) rest
    where
      heads : (x ≡ y) ⊎ IsIn x ys → (y ≡ x) ⊎ IsIn y xs → x ≡ y
      heads (inl e) j = e
      heads (inr i) (inl e) = sym e
      heads (inr i) (inr j) = absurd (before-itself x (before-through x y x (strict.0 y j) (strict_too.0 x i)))

      tail : (z : X) → IsIn z xs → (z ≡ y) ⊎ IsIn z ys → IsIn z ys
      tail z i (inr j) = j
      tail z i (inl e) =
          let same : x ≡ y = heads (there x (inl refl)) (back y (inl refl)) in
          absurd (before-itself x (subst (λ w. is_before cmp x w ≡ true) (e ∙ sym same) (strict.0 z i)))

      tail_too : (z : X) → IsIn z ys → (z ≡ x) ⊎ IsIn z xs → IsIn z xs
      tail_too z i (inr j) = j
      tail_too z i (inl e) =
          let same : x ≡ y = heads (there x (inl refl)) (back y (inl refl)) in
          absurd (before-itself y (subst (λ w. is_before cmp y w ≡ true) (e ∙ same) (strict_too.0 z i)))

-- what is made of each item of a list in order is in order, where it compares as the items do
pub in_order-map : {X Y : Type 0} (f : X → Y) (cmp : X → X → Ordering) (cmp_too : Y → Y → Ordering) → ((a b : X) → cmp_too (f a) (f b) ≡ cmp a b) → (xs : List X)
    → IsStrictlyInOrder cmp xs → IsStrictlyInOrder cmp_too (map f xs)
in_order-map f cmp cmp_too same [] strict = tt
in_order-map f cmp cmp_too same (x ∷ xs) strict = (
  λ y i.
      let made = from_map f y xs i in
      ap (λ z. is_lt (cmp_too (f x) z)) made.2 ∙ ap is_lt (same x made.0) ∙ strict.0 made.0 made.1,
  in_order-map f cmp cmp_too same xs strict.1,
)

pub put_in_order-map : {X Y : Type 0} (f : X → Y) (cmp : X → X → Ordering) (cmp_too : Y → Y → Ordering) → ((a b : X) → cmp_too (f a) (f b) ≡ cmp a b) → (ys : List X) (x : X)
    → map f (put_in_order cmp ys x) ≡ put_in_order cmp_too (map f ys) (f x)
put_in_order-map f cmp cmp_too same [] x = refl
put_in_order-map {X} f cmp cmp_too same (y ∷ ys) x =
    go (put_in_order-map f cmp cmp_too same ys x) (is_lt (cmp x y)) ∙ ap (λ o. if is_lt o then (f x ∷ f y ∷ map f ys) else (f y ∷ put_in_order cmp_too (map f ys) (f x))) (sym (same x y))
  where
    go : map f (put_in_order cmp ys x) ≡ put_in_order cmp_too (map f ys) (f x) → (b : Bool)
        → map f (if b then (x ∷ y ∷ ys) else (y ∷ put_in_order cmp ys x)) ≡ (if b then (f x ∷ f y ∷ map f ys) else (f y ∷ put_in_order cmp_too (map f ys) (f x)))
    go rest true = refl
    go rest false = ap (λ zs. f y ∷ zs) rest
