-- A stable sort puts items in the one order in which they are put one after the other.
use Rattle.std.proofs.Common.{◌≡◌, ◌∙◌, inl, inr, suc, Bool, true, false, cond, not, List, [], ◌∷◌, ◌++◌, append_assoc, add-one, filter, fold, get_or, refl, sym, ap, subst, if◌then◌else◌, arith}
use Rattle.std.proofs.lemmas.Bool.{and_parts, false_from_ne_true, not-true, true≢false}
use Rattle.std.proofs.lemmas.List.{append-nil}
use Rattle.std.proofs.lemmas.List.Elements.{filter-append}
use Rattle.std.proofs.lemmas.List.Sorted.{sorted_far}
use Rattle.std.specs.Cmp.{IsStrictWeakOrder}
use Rattle.std.specs.List.Sorted.{IsSortedBy, IsStableBy, ties}
use Rattle.std.specs.Ordering.{is_lt}
use Rattle.std.specs.declared.cmp.Ordering.{Ordering}
use Rattle.zone_graph.specs.Route.{IsIn}
use Rattle.zone_graph.proofs.Membership.{from_filter}
use Rattle.zone_graph.proofs.Places.{place_of}
use Rattle.zone_graph.specs.InOrder.{put_in_order, in_order}
use Rattle.laws_of_market.proofs.Ascending.{Ascends, ascends-fold, ascends-put, before_too, itself}

module _ {X : Type 0} (cmp : X → X → Ordering) (o : IsStrictWeakOrder (λ (x y : X). is_lt (cmp x y))) where
  -- an item comes before another
  abbrev pub lt : X → X → Bool
  lt x y = is_lt (cmp x y)

  tie-itself : (x : X) → ties lt x x ≡ true
  tie-itself x = rw (itself cmp o x) refl

  tie-from : (x y : X) → lt x y ≡ false → lt y x ≡ false → ties lt x y ≡ true
  tie-from x y a b = rw (a, b) refl

  from-tie : (x y : X) → ties lt x y ≡ true → (lt x y ≡ false) × (lt y x ≡ false)
  from-tie x y h =
      let both = and_parts (not (lt x y)) (not (lt y x)) h in (not-true (lt x y) both.0, not-true (lt y x) both.1)

  no-tie : (w x z : X) → ties lt w x ≡ true → lt x z ≡ true → ties lt w z ≡ false
  no-tie w x z tie less = false_from_ne_true (ties lt w z) (λ h. true≢false (sym less ∙ o.chain x w z (from-tie w x tie).1 (from-tie w z h).0))

  ascends-sorted : (xs : List X) → IsSortedBy lt xs → Ascends cmp o xs
  ascends-sorted [] sorted = tt
  ascends-sorted (x ∷ xs) sorted = (
    λ z i.
        let at = place_of z xs x i in
        let far : lt (get_or (x ∷ xs) (suc at.0) x) (get_or (x ∷ xs) 0 x) ≡ false =
        sorted_far lt o (x ∷ xs) sorted 0 (suc at.0) x (omega arith) (let less = at.1 in omega arith) in
        subst (λ y. lt y x ≡ false) at.2 far,
    ascends-sorted xs (λ k d low high.
        rw add-one (rw add-one at (sorted (suc k) d (omega arith) (omega arith)))),
  )

  -- nothing of a list passes that no item of it passes
  none-pass : (p : X → Bool) (ys : List X) → ((z : X) → IsIn z ys → p z ≡ false) → filter p ys ≡ []
  none-pass p [] each = refl
  none-pass p (y ∷ ys) each = rw (each y (inl refl)) (none-pass p ys (λ z i. each z (inr i)))

  -- stands behind those that it ties with
  ties-put : (w : X) (ys : List X) (x : X) → Ascends cmp o ys → filter (ties lt w) (put_in_order cmp ys x) ≡ filter (ties lt w) (ys ++ x ∷ [])
  ties-put w [] x up = refl
  ties-put w (y ∷ ys) x up = go (ties-put w ys x up.1) (lt x y) refl
    where
      tied : lt x y ≡ true → (t : Bool) → ties lt w x ≡ t
          → cond t (x ∷ filter (ties lt w) (y ∷ ys)) (filter (ties lt w) (y ∷ ys)) ≡ filter (ties lt w) (y ∷ ys) ++ cond t (x ∷ []) []
      tied e true is =
          let none : filter (ties lt w) (y ∷ ys) ≡ [] = none-pass (ties lt w) (y ∷ ys) (λ z i. elim i [
            | inl s ↦ rw s (no-tie w x y is e)
            | inr j ↦ no-tie w x z is (before_too cmp o x y z e (up.0 z j))
          ]) in
          ap (λ zs. x ∷ zs) none ∙ ap (λ zs. zs ++ x ∷ []) (sym none)
      tied e false is = sym (append-nil (filter (ties lt w) (y ∷ ys)))

      go : filter (ties lt w) (put_in_order cmp ys x) ≡ filter (ties lt w) (ys ++ x ∷ []) → (b : Bool) → lt x y ≡ b
          → filter (ties lt w) (if b then (x ∷ y ∷ ys) else (y ∷ put_in_order cmp ys x)) ≡ filter (ties lt w) (y ∷ (ys ++ x ∷ []))
      go rest true e = tied e (ties lt w x) refl ∙ sym (filter-append (ties lt w) (y ∷ ys) (x ∷ []))
      go rest false e = ap (λ zs. cond (ties lt w y) (y ∷ zs) zs) rest

  ties-fold : (w : X) (ys xs : List X) → Ascends cmp o ys → filter (ties lt w) (fold (put_in_order cmp) ys xs) ≡ filter (ties lt w) (ys ++ xs)
  ties-fold w ys [] up = ap (filter (ties lt w)) (sym (append-nil ys))
  ties-fold w ys (x ∷ xs) up =
      ties-fold w (put_in_order cmp ys x) xs (ascends-put cmp o ys x up)
      ∙ filter-append (ties lt w) (put_in_order cmp ys x) xs
      ∙ ap (λ zs. zs ++ filter (ties lt w) xs) (ties-put w ys x up)
      ∙ sym (filter-append (ties lt w) (ys ++ x ∷ []) xs)
      ∙ ap (filter (ties lt w)) (append_assoc ys (x ∷ []) xs)

  -- lists that ascend are one, where those that tie stand in the same order in both
  heads : (y z : X) (ys zs : List X) → Ascends cmp o (y ∷ ys) → Ascends cmp o (z ∷ zs)
      → ((w : X) → filter (ties lt w) (y ∷ ys) ≡ filter (ties lt w) (z ∷ zs)) → y ≡ z
  heads y z ys zs up up_too same = go (ties lt y z) refl
    where
      own : filter (ties lt y) (y ∷ ys) ≡ y ∷ filter (ties lt y) ys
      own = rw (tie-itself y) refl

      own_too : filter (ties lt z) (z ∷ zs) ≡ z ∷ filter (ties lt z) zs
      own_too = rw (tie-itself z) refl

      in_other : IsIn y (z ∷ zs)
      in_other = (from_filter (ties lt y) y (z ∷ zs) (subst (IsIn y) (sym own ∙ same y) (inl refl))).0

      in_first : IsIn z (y ∷ ys)
      in_first = (from_filter (ties lt z) z (y ∷ ys) (subst (IsIn z) (sym own_too ∙ sym (same z)) (inl refl))).0

      go : (b : Bool) → ties lt y z ≡ b → y ≡ z
      go true e =
          let both : y ∷ filter (ties lt y) ys ≡ z ∷ filter (ties lt y) zs = sym own ∙ same y ∙ rw e refl in cc
      go false e = elim in_other [
        | inl s ↦ s
        | inr i ↦ elim in_first [
          | inl s ↦ sym s
          | inr j ↦ absurd (true≢false (sym (tie-from y z (up_too.0 y i) (up.0 z j)) ∙ e))
        ]
      ]

  one-list : (ys zs : List X) → Ascends cmp o ys → Ascends cmp o zs → ((w : X) → filter (ties lt w) ys ≡ filter (ties lt w) zs) → ys ≡ zs
  one-list [] [] up up_too same = refl
  one-list [] (z ∷ zs) up up_too same =
      let some : filter (ties lt z) (z ∷ zs) ≡ z ∷ filter (ties lt z) zs = rw (tie-itself z) refl in
      let none : [] ≡ z ∷ filter (ties lt z) zs = same z ∙ some in absurd (cc)
  one-list (y ∷ ys) [] up up_too same =
      let some : filter (ties lt y) (y ∷ ys) ≡ y ∷ filter (ties lt y) ys = rw (tie-itself y) refl in
      let none : y ∷ filter (ties lt y) ys ≡ [] = sym some ∙ same y in absurd (cc)
  one-list (y ∷ ys) (z ∷ zs) up up_too same =
      let first = heads y z ys zs up up_too same in
      let rest = one-list ys zs up.1 up_too.1 (λ w. tails w (ties lt w y) refl first (same w)) in
      ap (λ x. x ∷ ys) first ∙ ap (λ xs. z ∷ xs) rest
    where
      tails : (w : X) (b : Bool) → ties lt w y ≡ b → y ≡ z → filter (ties lt w) (y ∷ ys) ≡ filter (ties lt w) (z ∷ zs)
          → filter (ties lt w) ys ≡ filter (ties lt w) zs
      tails w true e first all =
          let e_too : ties lt w z ≡ true = ap (ties lt w) (sym first) ∙ e in
          let both : y ∷ filter (ties lt w) ys ≡ z ∷ filter (ties lt w) zs = (let a = rw (e, e_too) at all in a) in cc
      tails w false e first all =
          let e_too : ties lt w z ≡ false = ap (ties lt w) (sym first) ∙ e in
          let both : filter (ties lt w) ys ≡ filter (ties lt w) zs = (let a = rw (e, e_too) at all in a) in both

  -- a stable sort is the order
  pub sorted-in_order : (xs ys : List X) → IsSortedBy lt ys → IsStableBy lt xs ys → ys ≡ in_order cmp xs
  sorted-in_order xs ys sorted stable =
      one-list ys (in_order cmp xs) (ascends-sorted ys sorted) (ascends-fold cmp o [] xs tt)
      (λ w. stable w ∙ sym (ties-fold w [] xs tt))
