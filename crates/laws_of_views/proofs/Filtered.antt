-- A filter of what is put in order is the filter put in order.
use Rattle.std.proofs.Common.{◌≡◌, ◌∙◌, inl, inr, Bool, true, false, cond, List, [], ◌∷◌, filter, fold, refl, sym, ap, if◌then◌else◌}
use Rattle.std.specs.Cmp.{IsStrictWeakOrder}
use Rattle.std.specs.Ordering.{is_lt}
use Rattle.std.specs.declared.cmp.Ordering.{Ordering}
use Rattle.zone_graph.specs.InOrder.{in_order, put_in_order}
use Rattle.zone_graph.specs.Route.{IsIn}
use Rattle.zone_graph.proofs.InOrder.{put_in_order-between}
use Rattle.zone_graph.proofs.Membership.{from_filter}
use Rattle.laws_of_market.proofs.Ascending.{Ascends, ascends-put, before_too, lt}

module _ {X : Type 0} (cmp : X → X → Ordering) (o : IsStrictWeakOrder (λ (x y : X). is_lt (cmp x y))) (p : X → Bool) where
  -- an item that passes
  kept-put : (ys : List X) (x : X) → Ascends cmp o ys → p x ≡ true → filter p (put_in_order cmp ys x) ≡ put_in_order cmp (filter p ys) x
  kept-put [] x up passes = ap (λ b. cond b (x ∷ []) []) passes
  kept-put (y ∷ ys) x up passes = go (lt cmp o x y) refl (kept-put ys x up.1 passes)
    where
      go : (b : Bool) → lt cmp o x y ≡ b → filter p (put_in_order cmp ys x) ≡ put_in_order cmp (filter p ys) x
          → filter p (if b then (x ∷ y ∷ ys) else (y ∷ put_in_order cmp ys x)) ≡ put_in_order cmp (filter p (y ∷ ys)) x
      go true less rest =
          ap (λ b. cond b (x ∷ filter p (y ∷ ys)) (filter p (y ∷ ys))) passes
          ∙ sym (put_in_order-between cmp [] (filter p (y ∷ ys)) x (λ z i. absurd i) ahead)
        where
          ahead : (z : X) → IsIn z (filter p (y ∷ ys)) → lt cmp o x z ≡ true
          ahead z i = elim (from_filter p z (y ∷ ys) i).0 [
            | inl same ↦ ap (λ w. lt cmp o x w) same ∙ less
            | inr later ↦ before_too cmp o x y z less (up.0 z later)
          ]
      go false less rest = inner (p y)
        where
          inner : (c : Bool) → cond c (y ∷ filter p (put_in_order cmp ys x)) (filter p (put_in_order cmp ys x)) ≡ put_in_order cmp (cond c (y ∷ filter p ys) (filter p ys)) x
          inner true =
              ap (λ zs. y ∷ zs) rest ∙ sym (ap (λ b. if b then (x ∷ y ∷ filter p ys) else (y ∷ put_in_order cmp (filter p ys) x)) less)
          inner false = rest

  -- and one that does not
  dropped-put : (ys : List X) (x : X) → p x ≡ false → filter p (put_in_order cmp ys x) ≡ filter p ys
  dropped-put [] x fails = ap (λ b. cond b (x ∷ []) []) fails
  dropped-put (y ∷ ys) x fails = go (lt cmp o x y) (dropped-put ys x fails)
    where
      go : (b : Bool) → filter p (put_in_order cmp ys x) ≡ filter p ys → filter p (if b then (x ∷ y ∷ ys) else (y ∷ put_in_order cmp ys x)) ≡ filter p (y ∷ ys)
      go true rest = ap (λ b. cond b (x ∷ filter p (y ∷ ys)) (filter p (y ∷ ys))) fails
      go false rest = ap (λ zs. cond (p y) (y ∷ zs) zs) rest

  filter-fold : (ys xs : List X) → Ascends cmp o ys → filter p (fold (put_in_order cmp) ys xs) ≡ fold (put_in_order cmp) (filter p ys) (filter p xs)
  filter-fold ys [] up = refl
  filter-fold ys (x ∷ xs) up = filter-fold (put_in_order cmp ys x) xs (ascends-put cmp o ys x up) ∙ go (p x) refl
    where
      go : (b : Bool) → p x ≡ b
          → fold (put_in_order cmp) (filter p (put_in_order cmp ys x)) (filter p xs) ≡ fold (put_in_order cmp) (filter p ys) (cond b (x ∷ filter p xs) (filter p xs))
      go true passes = ap (λ zs. fold (put_in_order cmp) zs (filter p xs)) (kept-put ys x up passes)
      go false fails = ap (λ zs. fold (put_in_order cmp) zs (filter p xs)) (dropped-put ys x fails)

  pub filter-in_order : (xs : List X) → filter p (in_order cmp xs) ≡ in_order cmp (filter p xs)
  filter-in_order xs = filter-fold [] xs tt

-- ---- filters of filters

module _ {X : Type 0} (out : X → Bool) where
  -- tests that agree on what passes another one
  pub filters-same : (a b : X → Bool) (xs : List X) → ((x : X) → IsIn x xs → out x ≡ true → a x ≡ b x) → filter out (filter a xs) ≡ filter out (filter b xs)
  filters-same a b [] same = refl
  filters-same a b (x ∷ xs) same = go (out x) refl (filters-same a b xs (λ y i. same y (inr i)))
    where
      passed : (c : Bool) → filter out (filter a xs) ≡ filter out (filter b xs) → filter out (cond c (x ∷ filter a xs) (filter a xs)) ≡ filter out (cond c (x ∷ filter b xs) (filter b xs))
      passed true rest = ap (λ zs. cond (out x) (x ∷ zs) zs) rest
      passed false rest = rest

      left_out : (q : X → Bool) → out x ≡ false → (c : Bool) → filter out (cond c (x ∷ filter q xs) (filter q xs)) ≡ filter out (filter q xs)
      left_out q fails true = ap (λ c. cond c (x ∷ filter out (filter q xs)) (filter out (filter q xs))) fails
      left_out q fails false = refl

      go : (c : Bool) → out x ≡ c → filter out (filter a xs) ≡ filter out (filter b xs) → filter out (filter a (x ∷ xs)) ≡ filter out (filter b (x ∷ xs))
      go true is rest = ap (λ c. filter out (cond c (x ∷ filter a xs) (filter a xs))) (same x (inl refl) is) ∙ passed (b x) rest
      go false is rest = left_out a is (a x) ∙ rest ∙ sym (left_out b is (b x))

  -- and a test that nothing of this passes
  pub filters-none : (a : X → Bool) (xs : List X) → ((x : X) → IsIn x xs → out x ≡ true → a x ≡ false) → filter out (filter a xs) ≡ []
  filters-none a xs none = filters-same a (λ x. false) xs none ∙ ap (filter out) (nothing xs)
    where
      nothing : (ys : List X) → filter (λ (x : X). false) ys ≡ []
      nothing [] = refl
      nothing (y ∷ ys) = nothing ys
