-- Lists of images, and counts of numbers.
use Rattle.std.proofs.Common.{◌≡◌, ℕ, zero, suc, ◌+◌, ◌*◌, ◌<◌, ◌==◌, false, cond, List, [], ◌∷◌, ◌++◌, map, refl, ap, ◌∙◌, arith, All, count_by, replicate}
use Rattle.std.proofs.lemmas.List.Sums.{sum_by-append}
use Rattle.std.proofs.lemmas.List.Folds.{sum_by-replicate}
use Rattle.std.proofs.lemmas.Bool.Decides.{nat_tests}

-- what holds of the images holds of the items
pub All-of-map : {X Y : Type 0} (P : Y → Type 0) (f : X → Y) (xs : List X) → All P (map f xs) → All (λ x. P (f x)) xs
All-of-map P f [] h k d lt = absurd (omega arith)
All-of-map P f (x ∷ xs) h zero d lt = h zero (f d) (omega arith)
All-of-map P f (x ∷ xs) h (suc k) d lt = All-of-map P f xs (λ j e below. h (suc j) e (omega arith)) k d (omega arith)

-- numbers that are all below one do not equal it
pub count_none : (ns : List ℕ) (n : ℕ) → All (λ m. m < n) ns → count_by (λ m. m == n) ns ≡ 0
count_none [] n h = refl
count_none (m ∷ ns) n h =
    let below : m < n = h zero 0 (omega arith) in
    let rest : count_by (λ m. m == n) ns ≡ 0 = count_none ns n (λ k d lt. h (suc k) d (omega arith)) in
    let differs : (m == n) ≡ false = grind (arith, nat_tests) in
    rw differs rest

-- one number several times more
pub count_more : (ns : List ℕ) (n x k : ℕ)
    → count_by (λ m. m == n) (ns ++ replicate k x) ≡ count_by (λ m. m == n) ns + k * cond (x == n) 1 0
count_more ns n x k =
    sum_by-append (λ m. cond (m == n) 1 0) ns (replicate k x)
    ∙ ap (λ s. count_by (λ m. m == n) ns + s) (sum_by-replicate (λ m. cond (m == n) 1 0) k x)
