-- What a list in order keeps where items are left out, or changed without a change of their order.
use Rattle.std.proofs.Common.{◌≡◌, ◌∙◌, inl, inr, Bool, true, false, cond, List, [], ◌∷◌, filter, fold, map, refl, sym, ap, if◌then◌else◌}
use Rattle.std.specs.Cmp.{IsStrictWeakOrder}
use Rattle.std.specs.Ordering.{is_lt}
use Rattle.std.specs.declared.cmp.Ordering.{Ordering}
use Rattle.zone_graph.specs.Route.{IsIn}
use Rattle.zone_graph.proofs.Membership.{from_filter}
use Rattle.laws_of_market.proofs.Ascending.{Ascends, ascends-put, before_too}
use Rattle.zone_graph.specs.InOrder.{put_in_order, in_order}
use Rattle.zone_graph.proofs.InOrder.{from_put_in_order}

module _ {X : Type 0} (cmp : X → X → Ordering) (o : IsStrictWeakOrder (λ (x y : X). is_lt (cmp x y))) where
  -- an item that comes before all others stands in front
  put-front : (ys : List X) (x : X) → ((z : X) → IsIn z ys → is_lt (cmp x z) ≡ true) → put_in_order cmp ys x ≡ x ∷ ys
  put-front [] x first = refl
  put-front (y ∷ ys) x first = rw (first y (inl refl)) refl

  filter-put : (p : X → Bool) (ys : List X) (x : X) → Ascends cmp o ys
      → filter p (put_in_order cmp ys x) ≡ (if p x then put_in_order cmp (filter p ys) x else filter p ys)
  filter-put p [] x up = refl
  filter-put p (y ∷ ys) x up = go (filter-put p ys x up.1) (is_lt (cmp x y)) refl
    where
      go : filter p (put_in_order cmp ys x) ≡ (if p x then put_in_order cmp (filter p ys) x else filter p ys) → (b : Bool) → is_lt (cmp x y) ≡ b
          → filter p (if b then (x ∷ y ∷ ys) else (y ∷ put_in_order cmp ys x))
          ≡ (if p x then put_in_order cmp (filter p (y ∷ ys)) x else filter p (y ∷ ys))
      go rest true e =
          ap (λ zs. if p x then zs else filter p (y ∷ ys)) (sym (put-front (filter p (y ∷ ys)) x (λ z i.
          elim (from_filter p z (y ∷ ys) i).0 [ inl s ↦ rw s e | inr j ↦ before_too cmp o x y z e (up.0 z j) ])))
      go rest false e = kept (p y) (p x) rest
        where
          kept : (own other : Bool) → filter p (put_in_order cmp ys x) ≡ (if other then put_in_order cmp (filter p ys) x else filter p ys)
              → cond own (y ∷ filter p (put_in_order cmp ys x)) (filter p (put_in_order cmp ys x))
              ≡ (if other then put_in_order cmp (cond own (y ∷ filter p ys) (filter p ys)) x else cond own (y ∷ filter p ys) (filter p ys))
          kept true true same = ap (λ zs. y ∷ zs) same ∙ ap (λ b. if b then (x ∷ y ∷ filter p ys) else (y ∷ put_in_order cmp (filter p ys) x)) (sym e)
          kept true false same = ap (λ zs. y ∷ zs) same
          kept false true same = same
          kept false false same = same

  filter-fold : (p : X → Bool) (ys xs : List X) → Ascends cmp o ys → filter p (fold (put_in_order cmp) ys xs) ≡ fold (put_in_order cmp) (filter p ys) (filter p xs)
  filter-fold p ys [] up = refl
  filter-fold p ys (x ∷ xs) up =
      filter-fold p (put_in_order cmp ys x) xs (ascends-put cmp o ys x up)
      ∙ ap (λ zs. fold (put_in_order cmp) zs (filter p xs)) (filter-put p ys x up)
      ∙ by (p x)
    where
      by : (b : Bool) → fold (put_in_order cmp) (if b then put_in_order cmp (filter p ys) x else filter p ys) (filter p xs)
          ≡ fold (put_in_order cmp) (filter p ys) (cond b (x ∷ filter p xs) (filter p xs))
      by true = refl
      by false = refl

  -- what is left of a list in order is what is left, in order
  pub filter-in_order : (p : X → Bool) (xs : List X) → filter p (in_order cmp xs) ≡ in_order cmp (filter p xs)
  filter-in_order p xs = filter-fold p [] xs tt

module _ {X : Type 0} (cmp : X → X → Ordering) (f : X → X) where
  map-put : (ys : List X) (x : X) → ((y : X) → IsIn y ys → cmp (f x) (f y) ≡ cmp x y) → map f (put_in_order cmp ys x) ≡ put_in_order cmp (map f ys) (f x)
  map-put [] x same = refl
  map-put (y ∷ ys) x same = go (map-put ys x (λ z i. same z (inr i))) (is_lt (cmp x y)) ∙ ap (λ c. if is_lt c then (f x ∷ f y ∷ map f ys) else (f y ∷ put_in_order cmp (map f ys) (f x))) (sym (same y (inl refl)))
    where
      go : map f (put_in_order cmp ys x) ≡ put_in_order cmp (map f ys) (f x) → (b : Bool)
          → map f (if b then (x ∷ y ∷ ys) else (y ∷ put_in_order cmp ys x)) ≡ (if b then (f x ∷ f y ∷ map f ys) else (f y ∷ put_in_order cmp (map f ys) (f x)))
      go rest true = refl
      go rest false = ap (λ zs. f y ∷ zs) rest

  map-fold : (Kept : X → Type 0) → ((x y : X) → Kept x → Kept y → cmp (f x) (f y) ≡ cmp x y) → (ys xs : List X)
      → ((y : X) → IsIn y ys → Kept y) → ((x : X) → IsIn x xs → Kept x)
      → map f (fold (put_in_order cmp) ys xs) ≡ fold (put_in_order cmp) (map f ys) (map f xs)
  map-fold Kept same ys [] of_ys of_xs = refl
  map-fold Kept same ys (x ∷ xs) of_ys of_xs =
      map-fold Kept same (put_in_order cmp ys x) xs
      (λ y i. elim (from_put_in_order cmp y ys x i) [ inl s ↦ of_xs y (inl s) | inr j ↦ of_ys y j ]) (λ z i. of_xs z (inr i))
      ∙ ap (λ zs. fold (put_in_order cmp) zs (map f xs)) (map-put ys x (λ y i. same x y (of_xs x (inl refl)) (of_ys y i)))

  -- changes that keep the order of items
  pub map-in_order : (Kept : X → Type 0) → ((x y : X) → Kept x → Kept y → cmp (f x) (f y) ≡ cmp x y) → (xs : List X)
      → ((x : X) → IsIn x xs → Kept x) → map f (in_order cmp xs) ≡ in_order cmp (map f xs)
  map-in_order Kept same xs of_xs = map-fold Kept same [] xs (λ y i. absurd i) of_xs
