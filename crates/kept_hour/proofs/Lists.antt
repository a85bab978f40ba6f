-- Lists of which all items pass, and first parts of longer lists.
use Rattle.std.proofs.Common.{◌≡◌, ℕ, ◌≤◌, true, List, [], ◌∷◌, ◌++◌, filter, length, take, refl, ap}
use Rattle.std.proofs.lemmas.List.{take-append-le}

pub all-pass : {X : Type 0} (xs : List X) → filter (λ x. true) xs ≡ xs
all-pass [] = refl
all-pass (x ∷ xs) = ap (λ ys. x ∷ ys) (all-pass xs)

-- a first part stays one when an item is put behind the list
pub take-more : {X : Type 0} (n : ℕ) (xs : List X) (x : X) → n ≤ length xs → take n (xs ++ x ∷ []) ≡ take n xs
take-more n xs x few = take-append-le n xs (x ∷ []) few
