-- The least item of a list by a total order.
use Rattle.std.proofs.Common.{◌≡◌, inl, inr, true, false, List, [], ◌∷◌, Option, Some, None, if◌then◌else◌, refl, sym, ap, subst}
use Rattle.std.proofs.lemmas.Bool.{true≢false}
use Rattle.std.specs.Cmp.{IsTotalOrder, upto, tied_itself}
use Rattle.std.specs.Ordering.{is_gt, ordering_reverse}
use Rattle.std.specs.declared.cmp.Ordering.{Ordering}
use Rattle.zone_graph.specs.Route.{IsIn, least_by, lesser_of}

module _ {X : Type 0} {cmp : X → X → Ordering} (o : IsTotalOrder cmp) where
  -- an item that is above another one is not below it
  not_above : (x y : X) → is_gt (cmp x y) ≡ true → is_gt (cmp y x) ≡ false
  not_above x y e = turned (cmp x y) e (cmp y x) (o.antisymm y x)
    where
      turned : (r : Ordering) → is_gt r ≡ true → (s : Ordering) → s ≡ ordering_reverse r → is_gt s ≡ false
      turned Ordering.Less e s h = absurd (true≢false (sym e))
      turned Ordering.Equal e s h = absurd (true≢false (sym e))
      turned Ordering.Greater e s h = ap is_gt h

  itself : (x : X) → is_gt (cmp x x) ≡ false
  itself x = ap is_gt (tied_itself o x)

  -- what the least is: an item, and above no item
  pub record IsLeast (least : X) (xs : List X) : Type 0 where
    pub there : IsIn least xs
    pub below : (x : X) → IsIn x xs → is_gt (cmp least x) ≡ false

  lesser : (x : X) (xs : List X) (rest : Option X) → ((y : X) → rest ≡ Some y → IsLeast y xs) → (rest ≡ None → xs ≡ [])
      → IsLeast (lesser_of cmp x rest) (x ∷ xs)
  lesser x xs None least none = record {
    there = inl refl;
    below = λ z h. elim h [
      | inl e ↦ subst (λ w. is_gt (cmp x w) ≡ false) (sym e) (itself x)
      | inr i ↦ absurd (subst (IsIn z) (none refl) i)
    ];
  }
  lesser x xs (Some y) least none =
      let ys = least y refl in
      elim (is_gt (cmp x y)) as (λ b. is_gt (cmp x y) ≡ b → IsLeast (if b then y else x) (x ∷ xs)) [
        | true ↦ λ e. record {
          there = inr ys.there;
          below = λ z h. elim h [
            | inl s ↦ subst (λ w. is_gt (cmp y w) ≡ false) (sym s) (not_above x y e)
            | inr i ↦ ys.below z i
          ];
        }
        | false ↦ λ e. record {
          there = inl refl;
          below = λ z h. elim h [
            | inl s ↦ subst (λ w. is_gt (cmp x w) ≡ false) (sym s) (itself x)
            | inr i ↦ upto o x y z e (ys.below z i)
          ];
        }
      ] refl

  pub least_by-none : (xs : List X) → least_by cmp xs ≡ None → xs ≡ []
  least_by-none [] e = refl
  least_by-none (x ∷ xs) e = cc

  pub least_by-is : (xs : List X) (least : X) → least_by cmp xs ≡ Some least → IsLeast least xs
  least_by-is [] least e = absurd (cc)
  least_by-is (x ∷ xs) least e =
      let is : IsLeast (lesser_of cmp x (least_by cmp xs)) (x ∷ xs) = lesser x xs (least_by cmp xs) (least_by-is xs) (least_by-none xs) in
      let same : lesser_of cmp x (least_by cmp xs) ≡ least = cc in
      subst (λ w. IsLeast w (x ∷ xs)) same is
