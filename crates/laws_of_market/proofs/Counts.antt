-- How many pass a test, and how many are in a list in order.
use Rattle.std.proofs.Common.{◌≡◌, ◌∙◌, ◌⊎◌, inl, inr, suc, ◌+◌, ◌<◌, ◌≤◌, Bool, true, false, cond, List, [], ◌∷◌, filter, fold, length, refl, sym, ap, if◌then◌else◌, arith}
use Rattle.std.proofs.lemmas.Bool.{true≢false}
use Rattle.std.specs.Ordering.{is_lt}
use Rattle.std.specs.declared.cmp.Ordering.{Ordering}
use Rattle.zone_graph.specs.Route.{IsIn}
use Rattle.zone_graph.specs.InOrder.{put_in_order, in_order}

-- putting in order keeps how many there are
pub length-put_in_order : {X : Type 0} (cmp : X → X → Ordering) (ys : List X) (x : X) → length (put_in_order cmp ys x) ≡ suc (length ys)
length-put_in_order cmp [] x = refl
length-put_in_order cmp (y ∷ ys) x =
    elim (is_lt (cmp x y)) as (λ b. length (if b then (x ∷ y ∷ ys) else (y ∷ put_in_order cmp ys x)) ≡ suc (suc (length ys))) [
      | true ↦ refl
      | false ↦ ap suc (length-put_in_order cmp ys x)
    ]

length-fold : {X : Type 0} (cmp : X → X → Ordering) (ys xs : List X) → length (fold (put_in_order cmp) ys xs) ≡ length ys + length xs
length-fold cmp ys [] = omega arith
length-fold cmp ys (x ∷ xs) = let rest = length-fold cmp (put_in_order cmp ys x) xs in let one = length-put_in_order cmp ys x in omega arith

pub length-in_order : {X : Type 0} (cmp : X → X → Ordering) (xs : List X) → length (in_order cmp xs) ≡ length xs
length-in_order cmp xs = let same = length-fold cmp [] xs in omega arith

-- fewer pass where none passes that did not, and one does no more
pub fewer-le : {X : Type 0} (p q : X → Bool) (xs : List X) → ((x : X) → IsIn x xs → p x ≡ true → q x ≡ true) → length (filter p xs) ≤ length (filter q xs)
fewer-le p q [] each = omega arith
fewer-le {X} p q (x ∷ xs) each = go (fewer-le p q xs (λ y h. each y (inr h))) (p x) (q x) refl refl
  where
    go : length (filter p xs) ≤ length (filter q xs) → (a b : Bool) → p x ≡ a → q x ≡ b
        → length (cond a (x ∷ filter p xs) (filter p xs)) ≤ length (cond b (x ∷ filter q xs) (filter q xs))
    go rest true true e k = omega arith
    go rest true false e k = absurd (true≢false (sym (each x (inl refl) e) ∙ k))
    go rest false true e k = omega arith
    go rest false false e k = rest

pub fewer-lt : {X : Type 0} (p q : X → Bool) (xs : List X) (x : X) → IsIn x xs → ((x : X) → IsIn x xs → p x ≡ true → q x ≡ true)
    → q x ≡ true → p x ≡ false → length (filter p xs) < length (filter q xs)
fewer-lt p q [] x h each was is = absurd h
fewer-lt {X} p q (y ∷ xs) x h each was is =
    go (fewer-le p q xs (λ z i. each z (inr i))) (p y) (q y) refl refl h (λ i. fewer-lt p q xs x i (λ z j. each z (inr j)) was is)
  where
    go : length (filter p xs) ≤ length (filter q xs) → (a b : Bool) → p y ≡ a → q y ≡ b → (x ≡ y) ⊎ IsIn x xs
        → (IsIn x xs → length (filter p xs) < length (filter q xs))
        → length (cond a (y ∷ filter p xs) (filter p xs)) < length (cond b (y ∷ filter q xs) (filter q xs))
    go rest true true e k (inl s) later = absurd (true≢false (sym e ∙ ap p (sym s) ∙ is))
    go rest true true e k (inr i) later = let less = later i in omega arith
    go rest true false e k s later = absurd (true≢false (sym (each y (inl refl) e) ∙ k))
    go rest false true e k s later = omega arith
    go rest false false e k (inl s) later = absurd (true≢false (sym was ∙ ap q s ∙ k))
    go rest false false e k (inr i) later = later i
