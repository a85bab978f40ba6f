-- Lists for hours that follow one another.
use Rattle.std.proofs.Common.{◌≡◌, ℕ, zero, suc, ◌+◌, ◌-◌, ◌≤◌, List, [], ◌∷◌, ◌++◌, refl, sym, ap, ◌∙◌, arith, add-zero}
use Rattle.std.specs.List.{flat_map, range_with_len}
use Rattle.std.proofs.lemmas.List.{flat_map_more}

-- one number more in a row of numbers
range_more : (first count : ℕ) → range_with_len first (suc count) ≡ range_with_len first count ++ (first + count) ∷ []
range_more first zero = rw add-zero refl
range_more first (suc count) =
    let next : (first + 1) + count ≡ first + suc count = omega arith in
    ap (λ rest. first ∷ rest) (range_more (first + 1) count ∙ ap (λ last. range_with_len (first + 1) count ++ last ∷ []) next)

-- the lists of one number more in a row of numbers
flat_map_range_more : {X : Type 0} (f : ℕ → List X) (first count : ℕ)
    → flat_map f (range_with_len first (suc count)) ≡ flat_map f (range_with_len first count) ++ f (first + count)
flat_map_range_more f first count = ap (flat_map f) (range_more first count) ∙ sym (flat_map_more f [] (range_with_len first count) (first + count))

-- the lists of one hour more, of hours from 1
pub one_hour_more : {X : Type 0} (f : ℕ → List X) (hour : ℕ) (before more : List X) → 1 ≤ hour
    → before ≡ flat_map f (range_with_len 1 (hour - 1)) → more ≡ before ++ f hour
    → more ≡ flat_map f (range_with_len 1 (hour + 1 - 1))
one_hour_more f hour before more some is longer =
    let count : suc (hour - 1) ≡ hour + 1 - 1 = omega arith in
    let at : 1 + (hour - 1) ≡ hour = omega arith in
    longer ∙ ap (λ items. items ++ f hour) is
    ∙ ap (λ h. flat_map f (range_with_len 1 (hour - 1)) ++ f h) (sym at)
    ∙ sym (flat_map_range_more f 1 (hour - 1))
    ∙ ap (λ n. flat_map f (range_with_len 1 n)) count
