-- Items that stand in a list again, and the places of items.
use Rattle.std.proofs.Common.{◌≡◌, ◌∙◌, ◌+◌, ◌<◌, ◌||◌, ◌⊎◌, inl, inr, ℕ, zero, suc, Bool, true, false, cond, not, List, [], ◌∷◌, ◌++◌, length, get_or, Option, Some, None, option_map, position, refl, sym, ap, arith, true≢false, nat_lt}
use Rattle.std.specs.List.{list_any, position_or_len}
use Rattle.std.proofs.lemmas.Bool.Decides.{nat_tests}
use Rattle.std.proofs.lemmas.List.Folds.{list_any-append}
use Rattle.std.proofs.lemmas.Bool.{or_cases}
use Rattle.zone_graph.specs.GridFault.{has_again}

swap_inner : (a b c d : Bool) → ((a || c) || (b || d)) ≡ ((a || b) || (c || d))
swap_inner true b c d = refl
swap_inner false true true d = refl
swap_inner false true false d = refl
swap_inner false false true d = refl
swap_inner false false false d = refl

pub or-false : (b : Bool) → (b || false) ≡ b
or-false true = refl
or-false false = refl

pub or-true : (b : Bool) → (b || true) ≡ true
or-true true = refl
or-true false = refl

-- one more item at the end
pub has_again-push : {X : Type 0} (same : X → X → Bool) → ((a b : X) → same a b ≡ same b a) → (xs : List X) (x : X)
    → has_again same (xs ++ x ∷ []) ≡ (has_again same xs || list_any (same x) xs)
has_again-push same symm [] x = refl
has_again-push same symm (y ∷ xs) x =
    ap (λ b. b || has_again same (xs ++ x ∷ [])) (list_any-append (same y) xs (x ∷ []))
    ∙ ap (λ b. (list_any (same y) xs || b) || has_again same (xs ++ x ∷ [])) (or-false (same y x) ∙ symm y x)
    ∙ ap (λ b. (list_any (same y) xs || same x y) || b) (has_again-push same symm xs x)
    ∙ swap_inner (list_any (same y) xs) (has_again same xs) (same x y) (list_any (same x) xs)

-- what stands again in a front stands again in the whole
pub has_again-front : {X : Type 0} (same : X → X → Bool) (xs ys : List X) → has_again same xs ≡ true → has_again same (xs ++ ys) ≡ true
has_again-front same [] ys h = absurd (true≢false (sym h))
has_again-front same (x ∷ xs) ys h =
    ap (λ b. b || has_again same (xs ++ ys)) (list_any-append (same x) xs ys)
    ∙ either (or_cases (list_any (same x) xs) (has_again same xs) h) (has_again-front same xs ys)
  where
    either : (list_any (same x) xs ≡ true) ⊎ (has_again same xs ≡ true) → (has_again same xs ≡ true → has_again same (xs ++ ys) ≡ true)
        → ((list_any (same x) xs || list_any (same x) ys) || has_again same (xs ++ ys)) ≡ true
    either (inl e) rest = ap (λ b. (b || list_any (same x) ys) || has_again same (xs ++ ys)) e
    either (inr e) rest = ap (λ b. (list_any (same x) xs || list_any (same x) ys) || b) (rest e) ∙ or-true (list_any (same x) xs || list_any (same x) ys)

pub first_false : (a b : Bool) → (a || b) ≡ false → a ≡ false
first_false true b e = e
first_false false b e = refl

pub second_false : (a b : Bool) → (a || b) ≡ false → b ≡ false
second_false true b e = absurd (true≢false e)
second_false false b e = e

-- where no item passes, none at a place does
pub none_at : {X : Type 0} (p : X → Bool) (xs : List X) (d : X) → list_any p xs ≡ false → (k : ℕ) → k < length xs → p (get_or xs k d) ≡ false
none_at p [] d e k most = absurd (omega arith)
none_at p (x ∷ xs) d e zero most = first_false (p x) (list_any p xs) e
none_at p (x ∷ xs) d e (suc k) most = none_at p xs d (second_false (p x) (list_any p xs) e) k (omega arith)

-- where nothing stands again, no item is the same as one behind it
pub behind_differs : {X : Type 0} (same : X → X → Bool) (xs : List X) (d : X) → has_again same xs ≡ false
    → (i j : ℕ) → i < j → j < length xs → same (get_or xs i d) (get_or xs j d) ≡ false
behind_differs same [] d h i j less within = absurd (omega arith)
behind_differs same (x ∷ xs) d h i zero less within = absurd (omega arith)
behind_differs same (x ∷ xs) d h zero (suc j) less within = none_at (same x) xs d (first_false (list_any (same x) xs) (has_again same xs) h) j (omega arith)
behind_differs same (x ∷ xs) d h (suc i) (suc j) less within = behind_differs same xs d (second_false (list_any (same x) xs) (has_again same xs) h) i j (omega arith) (omega arith)

-- ---- places

-- the place of the first item that passes: 0, or one more than in the rest
pub position-cons : {X : Type 0} (p : X → Bool) (x : X) (xs : List X) → position p (x ∷ xs) ≡ cond (p x) (Some 0) (option_map suc (position p xs))
position-cons p x xs = by (p x)
  where
    place : Bool → ℕ
    place b = cond (not b) (1 + position_or_len p xs) 0

    at_front : (len : ℕ) → cond {A = Option ℕ} (nat_lt 0 (suc len)) (Some 0) None ≡ Some 0
    at_front len = grind (arith, nat_tests)

    later : (n len : ℕ) → cond (nat_lt (1 + n) (suc len)) (Some (1 + n)) None ≡ option_map suc (cond (nat_lt n len) (Some n) None)
    later n len = grind (arith, nat_tests)

    by : (b : Bool) → cond (nat_lt (place b) (suc (length xs))) (Some (place b)) None ≡ cond b (Some 0) (option_map suc (position p xs))
    by true = at_front (length xs)
    by false = later (position_or_len p xs) (length xs)

split_none : (b : Bool) (o : Option ℕ) → cond b (Some 0) (option_map suc o) ≡ None → (b ≡ false) × (o ≡ None)
split_none true o h = cc
split_none false None h = (refl, refl)
split_none false (Some n) h = cc

-- an item that does not pass, put at the end, changes no place
pub position-push_other : {X : Type 0} (p : X → Bool) (xs : List X) (x : X) → p x ≡ false → position p (xs ++ x ∷ []) ≡ position p xs
position-push_other p [] x h = position-cons p x [] ∙ ap (λ b. cond b (Some 0) None) h
position-push_other p (y ∷ xs) x h =
    position-cons p y (xs ++ x ∷ []) ∙ ap (λ o. cond (p y) (Some 0) (option_map suc o)) (position-push_other p xs x h) ∙ sym (position-cons p y xs)

-- the first item that passes, put at the end, has the last place
pub position-push_first : {X : Type 0} (p : X → Bool) (xs : List X) (x : X) → position p xs ≡ None → p x ≡ true → position p (xs ++ x ∷ []) ≡ Some (length xs)
position-push_first p [] x none h = position-cons p x [] ∙ ap (λ b. cond b (Some 0) None) h
position-push_first p (y ∷ xs) x none h =
    let parts = split_none (p y) (position p xs) (sym (position-cons p y xs) ∙ none) in
    position-cons p y (xs ++ x ∷ [])
    ∙ ap (λ o. cond (p y) (Some 0) (option_map suc o)) (position-push_first p xs x parts.1 h)
    ∙ ap (λ b. cond b (Some 0) (Some (suc (length xs)))) parts.0

-- where no item has a place, none passes
pub list_any-no_position : {X : Type 0} (p : X → Bool) (xs : List X) → position p xs ≡ None → list_any p xs ≡ false
list_any-no_position p [] none = refl
list_any-no_position p (x ∷ xs) none =
    let parts = split_none (p x) (position p xs) (sym (position-cons p x xs) ∙ none) in
    ap (λ b. b || list_any p xs) parts.0 ∙ list_any-no_position p xs parts.1

-- where an item has a place, one passes
pub list_any-position : {X : Type 0} (p : X → Bool) (xs : List X) (place : ℕ) → position p xs ≡ Some place → list_any p xs ≡ true
list_any-position p [] place some = cc
list_any-position p (x ∷ xs) place some = by (p x) (position p xs) refl refl (λ n. list_any-position p xs n)
  where
    by : (b : Bool) (o : Option ℕ) → p x ≡ b → position p xs ≡ o → ((n : ℕ) → position p xs ≡ Some n → list_any p xs ≡ true) → (p x || list_any p xs) ≡ true
    by true o e f rest = ap (λ b. b || list_any p xs) e
    by false (Some n) e f rest = ap (λ b. b || list_any p xs) e ∙ rest n f
    by false None e f rest = let absent : None ≡ Some place = sym (ap (λ o. cond (p x) (Some 0) (option_map suc o)) f ∙ ap (λ b. cond b (Some 0) None) e) ∙ sym (position-cons p x xs) ∙ some in cc
