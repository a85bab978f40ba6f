-- Lists that are changed place by place.
use Rattle.std.proofs.Common.{◌≡◌, ◌∙◌, ℕ, zero, suc, ◌+◌, ◌<◌, List, [], ◌∷◌, ◌++◌, drop, get_or, length, map, take, add-one, refl, sym, ap, subst, arith, slice_set}
use Rattle.zone_graph.specs.Route.{IsIn}
use Rattle.zone_graph.proofs.Places.{at_place}

-- the items up to a place are changed
abbrev pub changed_to : {X : Type 0} → (X → X) → List X → ℕ → List X
changed_to f xs i = map f (take i xs) ++ drop i xs

at-place : {X : Type 0} (f : X → X) (xs : List X) (i : ℕ) (d : X) → i < length xs → get_or (changed_to f xs i) i d ≡ get_or xs i d
at-place f [] i d within = absurd (let no : ⊥ = omega arith in no)
at-place f (x ∷ xs) zero d within = refl
at-place f (x ∷ xs) (suc i) d within = at-place f xs i d (omega arith)

set-at : {X : Type 0} (f : X → X) (xs : List X) (i : ℕ) (d : X) → i < length xs → slice_set (changed_to f xs i) i (f (get_or xs i d)) ≡ changed_to f xs (suc i)
set-at f [] i d within = absurd (let no : ⊥ = omega arith in no)
set-at f (x ∷ xs) zero d within = refl
set-at f (x ∷ xs) (suc i) d within = ap (λ ys. f x ∷ ys) (set-at f xs i d (omega arith))

-- with the one there, those up to the next place are
pub set-next : {X : Type 0} (f : X → X) (xs ys : List X) (i : ℕ) (d : X) (y : X) → i < length xs → ys ≡ changed_to f xs i → y ≡ f (get_or ys i d)
    → slice_set ys i y ≡ changed_to f xs (i + 1)
set-next f xs ys i d y within are is =
    ap (slice_set ys i) (is ∙ ap (λ zs. f (get_or zs i d)) are ∙ ap f (at-place f xs i d within))
    ∙ ap (λ zs. slice_set zs i (f (get_or xs i d))) are
    ∙ set-at f xs i d within
    ∙ ap (changed_to f xs) (sym (add-one i))

-- the item at the place is not changed yet
pub at-now : {X : Type 0} (f : X → X) (xs ys : List X) (i : ℕ) (d : X) → i < length xs → ys ≡ changed_to f xs i → get_or ys i d ≡ get_or xs i d
at-now f xs ys i d within are = ap (λ zs. get_or zs i d) are ∙ at-place f xs i d within

pub at-now-in : {X : Type 0} (f : X → X) (xs ys : List X) (i : ℕ) (d : X) → i < length xs → ys ≡ changed_to f xs i → IsIn (get_or ys i d) xs
at-now-in f xs ys i d within are = subst (λ x. IsIn x xs) (sym (at-now f xs ys i d within are)) (at_place xs i d within)
