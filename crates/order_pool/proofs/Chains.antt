-- What a change of a few links does to a chain of places.
use Rattle.std.proofs.Common.{◌≡◌, ◌≢◌, ℕ, zero, suc, ◌<◌, ◌≤◌, List, [], ◌∷◌, ◌++◌, length, get_or, refl, sym, ap, ◌∙◌, subst, arith, ltb, cond, Contains, Option, Some, None}
use Rattle.order_pool.specs.Lines.{first_in, last_in}
use Rattle.order_pool.specs.Links.{walked, IsChain}

-- what a link's end is: a place, or none at a mark
abbrev pub place_at : ℕ → Option ℕ
place_at number = cond (ltb number 4096) (Some number) None

place_at_mark : (number : ℕ) → 4096 ≤ number → place_at number ≡ None
place_at_mark number high = grind arith

place_at_place : (number : ℕ) → number < 4096 → place_at number ≡ Some number
place_at_place number low = grind arith

-- the number is none of these
abbrev pub Misses : ℕ → List ℕ → Type 0
Misses n [] = Unit {0}
Misses n (x ∷ xs) = (x ≢ n) × Misses n xs

-- what does not stand between any two parts of a list is none of its numbers
pub misses_from_splits : (n : ℕ) (xs : List ℕ) → ((front back : List ℕ) → xs ≡ front ++ n ∷ back → ⊥) → Misses n xs
misses_from_splits n [] none = tt
misses_from_splits n (x ∷ xs) none =
    (λ same. none [] xs (ap (λ v. v ∷ xs) same), misses_from_splits n xs (λ front back e. none (x ∷ front) back (ap (λ l. x ∷ l) e)))

-- a number that is none of a list is none of its parts
pub misses_parts : (n x : ℕ) (front back : List ℕ) → Misses n (front ++ x ∷ back) → Misses n front × (x ≢ n) × Misses n back
misses_parts n x [] back misses = (tt, misses.0, misses.1)
misses_parts n x (y ∷ front) back misses =
    let rest = misses_parts n x front back misses.1 in
    ((misses.0, rest.0), rest.1, rest.2)

-- a number that a list contains stands between two parts of it
pub split_at : (x : ℕ) (xs : List ℕ) → Contains xs x → (front : List ℕ) × (back : List ℕ) × (xs ≡ front ++ x ∷ back)
split_at x [] has = absurd (omega (arith, has.1))
split_at x (y ∷ ys) (zero, within, found) = ([], ys, ap (λ v. v ∷ ys) found)
split_at x (y ∷ ys) (suc k, within, found) =
    let rest = split_at x ys (k, omega (arith, within), found) in
    (y ∷ rest.0, rest.1, ap (λ l. y ∷ l) rest.2)

-- what stands between two parts of a list is contained in it
pub contains_between : {X : Type 0} (x : X) (front back : List X) → Contains (front ++ x ∷ back) x
contains_between x [] back = (0, omega arith, refl)
contains_between x (y ∷ front) back =
    let rest = contains_between x front back in
    (suc rest.0, omega (arith, rest.1), rest.2)

-- a list that does not contain a number misses it
pub misses_absent : (n : ℕ) (xs : List ℕ) → (Contains xs n → ⊥) → Misses n xs
misses_absent n xs absent =
    misses_from_splits n xs (λ front back e. let P : List ℕ → Type 0 = λ l. Contains l n in absent (subst P (sym e) (contains_between n front back)))

module _ (next previous : List ℕ) where
  -- a chain through a place is a chain up to it and one from it on
  pub chain_split : (from to place : ℕ) (front back : List ℕ) → IsChain next previous from (front ++ place ∷ back) to
      → IsChain next previous from front place × (place < 4096) × IsChain next previous place back to
  chain_split from to place [] back c = ((c.1, c.2), c.0, c.3)
  chain_split from to place (x ∷ front) back c =
      let rest = chain_split x to place front back c.3 in
      ((c.0, c.1, c.2, rest.0), rest.1, rest.2)

  -- two chains that meet at a place are one
  pub chain_join : (from to place : ℕ) (front back : List ℕ) → IsChain next previous from front place → place < 4096 → IsChain next previous place back to
      → IsChain next previous from (front ++ place ∷ back) to
  chain_join from to place [] back c within d = (within, c.0, c.1, d)
  chain_join from to place (x ∷ front) back c within d =
      (c.0, c.1, c.2, chain_join x to place front back c.3 within d)

  -- the link back from the end of a chain leads to a number whose link leads to that end
  pub chain_end : (from to : ℕ) (xs : List ℕ) → IsChain next previous from xs to → get_or next (get_or previous to 0) 0 ≡ to
  chain_end from to [] c = rw c.1 c.0
  chain_end from to (x ∷ xs) c = chain_end x to xs c.3

  pub chain_end_bound : (from to bound : ℕ) (xs : List ℕ) → from < bound → 4096 ≤ bound → IsChain next previous from xs to → get_or previous to 0 < bound
  chain_end_bound from to bound [] low high c = omega (arith, c.1)
  chain_end_bound from to bound (x ∷ xs) low high c = chain_end_bound x to bound xs (omega (arith, c.0)) high c.3

  -- the link from the start of a chain leads to a number whose link back leads to that start
  pub chain_start : (from to : ℕ) (xs : List ℕ) → IsChain next previous from xs to → get_or previous (get_or next from 0) 0 ≡ from
  chain_start from to [] c = rw c.0 c.1
  chain_start from to (x ∷ xs) c = rw c.1 c.2

  pub chain_start_bound : (from to bound : ℕ) (xs : List ℕ) → to < bound → 4096 ≤ bound → IsChain next previous from xs to → get_or next from 0 < bound
  chain_start_bound from to bound [] low high c = omega (arith, c.0)
  chain_start_bound from to bound (x ∷ xs) low high c = omega (arith, c.0, c.1)

  -- a mark is none of the places of a chain
  pub chain_misses_mark : (from to mark : ℕ) (xs : List ℕ) → 4096 ≤ mark → IsChain next previous from xs to → Misses mark xs
  chain_misses_mark from to mark [] high c = tt
  chain_misses_mark from to mark (x ∷ xs) high c =
      ((λ same. omega (arith, c.0, same)), chain_misses_mark x to mark xs high c.3)

  -- two chains from one number to marks are the same
  pub chain_unique : (from to to' : ℕ) (xs ys : List ℕ) → 4096 ≤ to → 4096 ≤ to' → IsChain next previous from xs to → IsChain next previous from ys to' → (xs ≡ ys) × (to ≡ to')
  chain_unique from to to' [] [] high high' c d = (refl, sym c.0 ∙ d.0)
  chain_unique from to to' [] (y ∷ ys) high high' c d = absurd (omega (arith, c.0, d.0, d.1))
  chain_unique from to to' (x ∷ xs) [] high high' c d = absurd (omega (arith, c.0, c.1, d.0))
  chain_unique from to to' (x ∷ xs) (y ∷ ys) high high' c d =
      let same : x ≡ y = sym c.1 ∙ d.1 in
      let rest = chain_unique x to to' xs ys high high' c.3 (rw same d.3) in
      (cc (same, rest.0), rest.1)

  -- the places that the links lead through are those of the chain
  pub walked_chain : (steps from to : ℕ) (xs : List ℕ) → length xs < steps → 4096 ≤ to → IsChain next previous from xs to → walked next steps (get_or next from 0) ≡ xs
  unfolding walked
  walked_chain zero from to xs few high c = absurd (omega arith)
  walked_chain (suc steps) from to [] few high c = rw c.0 (grind (arith))
  walked_chain (suc steps) from to (x ∷ xs) few high c =
      rw (c.1) (let rest = walked_chain steps x to xs (omega arith) high c.3 in let low : x < 4096 = c.0 in grind (arith, rest))

  -- the link back from the end of a chain leads to none but its start and its places
  pub chain_end_apart : (n from to : ℕ) (xs : List ℕ) → from ≢ n → Misses n xs → IsChain next previous from xs to → get_or previous to 0 ≢ n
  chain_end_apart n from to [] from_no misses c = λ e. from_no (sym c.1 ∙ e)
  chain_end_apart n from to (x ∷ xs) from_no misses c = chain_end_apart n x to xs misses.0 misses.1 c.3

  -- the link from the start of a chain leads to none but its places and its end
  pub chain_start_apart : (n from to : ℕ) (xs : List ℕ) → to ≢ n → Misses n xs → IsChain next previous from xs to → get_or next from 0 ≢ n
  chain_start_apart n from to [] to_no misses c = λ e. to_no (sym c.0 ∙ e)
  chain_start_apart n from to (x ∷ xs) to_no misses c = λ e. misses.0 (sym c.1 ∙ e)

  -- the link from the start of a chain shows its first place
  pub chain_first : (from to : ℕ) (xs : List ℕ) → 4096 ≤ to → IsChain next previous from xs to → place_at (get_or next from 0) ≡ first_in xs
  chain_first from to [] high c = rw c.0 (place_at_mark to high)
  chain_first from to (x ∷ xs) high c = rw c.1 (place_at_place x c.0)

  chain_last_place : (from to x : ℕ) (xs : List ℕ) → IsChain next previous from (x ∷ xs) to → (last_in (x ∷ xs) ≡ Some (get_or previous to 0)) × (get_or previous to 0 < 4096)
  chain_last_place from to x [] c = (ap Some (sym c.3.1), omega (arith, c.0, c.3.1))
  chain_last_place from to x (y ∷ ys) c = chain_last_place x to y ys c.3

  -- the link back from the end of a chain shows its last place
  pub chain_last : (from to : ℕ) (xs : List ℕ) → 4096 ≤ from → IsChain next previous from xs to → place_at (get_or previous to 0) ≡ last_in xs
  chain_last from to [] high c = rw c.1 (place_at_mark from high)
  chain_last from to (x ∷ xs) high c =
      let last = chain_last_place from to x xs c in
      place_at_place (get_or previous to 0) last.1 ∙ sym last.0
