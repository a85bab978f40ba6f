-- Sums over the items of a list, read by their places, and how often someone stands somewhere.
use Rattle.std.proofs.Common.{◌≡◌, inl, inr, ℕ, zero, suc, ◌+◌, ◌<◌, ◌≤◌, true, cond, List, [], ◌∷◌, map, drop, take, length, count_by, sum_by, refl, sym, ap, arith, set, eq-eqb}
use Rattle.std.proofs.lemmas.List.Sums.{sum_by-cons}
use mathlib.Core.Option.{some, some-injective, some-ne-none}
use lib.ListN.{get_elem?}
use Rattle.zone_graph.specs.Route.{IsIn}
use Rattle.market_model.specs.declared.who.Who.{Who}
use Rattle.market_model.specs.declared.who.Who.TheVariants as who
use Rattle.journal_front.specs.declared.view.Standing.{Standing}
use Rattle.journal_front.specs.declared.view.View.{View}
use Rattle.journal_front.specs.Views.{is_same, times_in}

module _ {X : Type 0} (f : X → ℕ) where
  -- an item is changed
  pub sum-set : (xs : List X) (i : ℕ) (x y : X) → get_elem? xs i ≡ some x → sum_by f (set xs i y) + f x ≡ sum_by f xs + f y
  sum-set [] i x y at = absurd (some-ne-none x (sym at))
  sum-set (z ∷ xs) zero x y at =
      let same = ap f (some-injective z x at) in omega (arith, sum_by-cons f y xs, sum_by-cons f z xs, same)
  sum-set (z ∷ xs) (suc i) x y at =
      omega (arith, sum_by-cons f z (set xs i y), sum_by-cons f z xs, sum-set xs i x y at)

  -- no item is more than the sum
  pub sum-one : (xs : List X) (i : ℕ) (x : X) → get_elem? xs i ≡ some x → f x ≤ sum_by f xs
  sum-one [] i x at = absurd (some-ne-none x (sym at))
  sum-one (z ∷ xs) zero x at = let same = ap f (some-injective z x at) in omega (arith, sum_by-cons f z xs, same)
  sum-one (z ∷ xs) (suc i) x at = omega (arith, sum_by-cons f z xs, sum-one xs i x at)

  -- nor are two of them
  pub sum-two : (xs : List X) (i j : ℕ) (x y : X) → ¬ (j ≡ i) → get_elem? xs i ≡ some x → get_elem? xs j ≡ some y → f x + f y ≤ sum_by f xs
  sum-two [] i j x y other at there = absurd (some-ne-none x (sym at))
  sum-two (z ∷ xs) zero zero x y other at there = absurd (other refl)
  sum-two (z ∷ xs) zero (suc j) x y other at there =
      let same = ap f (some-injective z x at) in omega (arith, sum_by-cons f z xs, sum-one xs j y there, same)
  sum-two (z ∷ xs) (suc i) zero x y other at there =
      let same = ap f (some-injective z y there) in omega (arith, sum_by-cons f z xs, sum-one xs i x at, same)
  sum-two (z ∷ xs) (suc i) (suc j) x y other at there =
      omega (arith, sum_by-cons f z xs, sum-two xs i j x y (λ same. other (ap suc same)) at there)

  pub sum-map : {Y : Type 0} (g : Y → X) (ys : List Y) → sum_by f (map g ys) ≡ sum_by (λ y. f (g y)) ys
  sum-map g [] = refl
  sum-map g (y ∷ ys) = omega (arith, sum_by-cons f (g y) (map g ys), sum_by-cons (λ y. f (g y)) y ys, sum-map g ys)

  -- one item alone
  pub sum-alone : (x : X) → sum_by f (x ∷ []) ≡ f x
  sum-alone x = omega (arith, sum_by-cons f x [])

  -- the first item and the rest
  pub sum-first : (xs : List X) → sum_by f (take 1 xs) + sum_by f (drop 1 xs) ≡ sum_by f xs
  sum-first [] = refl
  sum-first (x ∷ xs) = omega (arith, sum_by-cons f x xs)

pub length-first : {X : Type 0} (xs : List X) → 0 < length xs → length (take 1 xs) ≡ 1
length-first [] some_there = absurd (omega arith)
length-first (x ∷ xs) some_there = refl

pub IsIn-first : {X : Type 0} (x : X) (xs : List X) → IsIn x (take 1 xs) → IsIn x xs
IsIn-first x [] there = there
IsIn-first x (y ∷ xs) there = elim there [ inl here ↦ inl here | inr later ↦ absurd later ]

pub IsIn-others : {X : Type 0} (x : X) (xs : List X) → IsIn x (drop 1 xs) → IsIn x xs
IsIn-others x [] there = there
IsIn-others x (y ∷ xs) there = inr there

pub is_same-refl : (someone : Who) → is_same someone someone ≡ true
is_same-refl (who.Hour hour) = eq-eqb hour hour refl
is_same-refl (who.Caller caller) = eq-eqb caller caller refl

-- whoever has a standing in a view is counted there
stands-once : (standing : Standing) (standings : List Standing) → IsIn standing standings
    → 1 ≤ count_by (λ other. is_same standing.who other.who) standings
stands-once standing [] there = absurd there
stands-once standing (other ∷ standings) there =
    let weight : Standing → ℕ = λ s. cond (is_same standing.who s.who) 1 0 in
    let counted = sum_by-cons weight other standings in
    elim there [
      | inl here ↦
          let own : weight standing ≡ 1 = ap (λ b. cond b 1 0) (is_same-refl standing.who) in
          omega (arith, counted, ap weight here, own)
      | inr later ↦ omega (arith, counted, stands-once standing standings later)
    ]

pub times-once : (standing : Standing) (view : View) → IsIn standing view.standings → 1 ≤ times_in standing.who view
times-once standing view there = stands-once standing view.standings there
