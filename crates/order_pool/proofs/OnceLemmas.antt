-- What follows from it that each place stands at one spot only.
use Rattle.std.proofs.Common.{◌≡◌, ◌≢◌, ◌⊎◌, inl, inr, ℕ, zero, suc, ◌+◌, ◌<◌, List, [], ◌∷◌, ◌++◌, length, set, sum_by, Contains, Option, Some, None, refl, sym, ap, ◌∙◌, subst, arith, length-append, append_assoc}
use Rattle.std.proofs.lemmas.Bool.{cases_eq}
use Rattle.std.proofs.lemmas.List.{get_or-set_same, get_or-set_other, length-set, append-nil}
use Rattle.std.proofs.lemmas.List.Sums.{sum_by-set}
use Rattle.std.proofs.lemmas.List.Elements.{Contains-append_left, Contains-append_right, Contains-append_cases}
use Rattle.order_pool.specs.Lines.{line_at, StandsIn, StandsBetween, StandOnce, IsInserted}
use Rattle.order_pool.proofs.Chains.{Misses, misses_from_splits, split_at, contains_between}

-- a number that a list misses is none of what it contains
pub misses_contains : (n y : ℕ) (xs : List ℕ) → Misses n xs → Contains xs y → y ≢ n
misses_contains n y [] misses has = absurd (omega (arith, has.1))
misses_contains n y (x ∷ xs) misses (zero, within, found) = λ e. misses.0 (found ∙ e)
misses_contains n y (x ∷ xs) misses (suc k, within, found) = misses_contains n y xs misses.1 (k, omega (arith, within), found)

-- an element of a list with one more at its head is that one or one of the list
pub contains_cons_cases : (x y : ℕ) (xs : List ℕ) → Contains (x ∷ xs) y → (x ≡ y) ⊎ Contains xs y
contains_cons_cases x y xs (zero, within, found) = inl found
contains_cons_cases x y xs (suc k, within, found) = inr (k, omega (arith, within), found)

pub contains_cons : (x y : ℕ) (xs : List ℕ) → Contains xs y → Contains (x ∷ xs) y
contains_cons x y xs has = (suc has.0, omega (arith, has.1), has.2)

module _ (lines : List (List ℕ)) (once : StandOnce lines) where
  -- a place is on no other line
  pub once_other : (k j place : ℕ) (front back : List ℕ) → j < length lines → j ≢ k → StandsBetween lines k front place back → Misses place (line_at lines j)
  once_other k j place front back within differs stands =
      misses_from_splits place (line_at lines j) (λ front' back' e. differs (sym (once k j place front back front' back' stands (within, e)).0))

  -- a place does not stand ahead of itself
  pub once_front : (k place : ℕ) (front back : List ℕ) → StandsBetween lines k front place back → Misses place front
  once_front k place front back stands =
      misses_from_splits place front (λ f g e.
      let again : StandsBetween lines k f place (g ++ place ∷ back) = (stands.0, stands.1 ∙ ap (λ l. l ++ place ∷ back) e ∙ append_assoc f (place ∷ g) (place ∷ back)) in
      let same = once k k place front back f (g ++ place ∷ back) stands again in
      omega (arith, ap length same.2, length-append g (place ∷ back)))

  -- nor behind itself
  pub once_back : (k place : ℕ) (front back : List ℕ) → StandsBetween lines k front place back → Misses place back
  once_back k place front back stands =
      misses_from_splits place back (λ f g e.
      let again : StandsBetween lines k (front ++ place ∷ f) place g = (stands.0, stands.1 ∙ ap (λ l. front ++ place ∷ l) e ∙ sym (append_assoc front (place ∷ f) (place ∷ g))) in
      let same = once k k place front back (front ++ place ∷ f) g stands again in
      omega (arith, ap length same.2, ap length e, length-append f (place ∷ g)))

  -- without a place the lines hold every other place, and not this one
  module _ (k place : ℕ) (front back : List ℕ) (stands : StandsBetween lines k front place back) where
    pub removed_loses : (j y : ℕ) → StandsIn (set lines k (front ++ back)) j y → StandsIn lines j y × (y ≢ place)
    removed_loses j y has =
        let within : j < length lines = omega (arith, has.0, length-set lines k (front ++ back)) in
        elim (cases_eq j k) [
          | inl same ↦
              let P : ℕ → Type 0 = λ i. Contains (line_at (set lines k (front ++ back)) i) y in
              let Q : List ℕ → Type 0 = λ l. Contains l y in
              let here : Contains (front ++ back) y = subst Q (get_or-set_same lines k (front ++ back) [] stands.0) (subst P same has.1) in
              let answer : Contains (front ++ place ∷ back) y × (y ≢ place) =
              elim (Contains-append_cases front back y here) [
                | inl left ↦ (Contains-append_left front (place ∷ back) y left, misses_contains place y front (once_front k place front back stands) left)
                | inr right ↦ (Contains-append_right front (place ∷ back) y (contains_cons place y back right), misses_contains place y back (once_back k place front back stands) right)
              ] in
              let R : ℕ → Type 0 = λ i. Contains (line_at lines i) y in
              ((within, subst R (sym same) (subst Q (sym stands.1) answer.0)), answer.1)
          | inr differs ↦
              let Q : List ℕ → Type 0 = λ l. Contains l y in
              let here : Contains (line_at lines j) y = subst Q (get_or-set_other lines k j (front ++ back) [] differs) has.1 in
              ((within, here), misses_contains place y (line_at lines j) (once_other k j place front back within differs stands) here)
        ]

    pub removed_keeps : (j y : ℕ) → y ≢ place → StandsIn lines j y → StandsIn (set lines k (front ++ back)) j y
    removed_keeps j y apart has =
        let within : j < length (set lines k (front ++ back)) = omega (arith, has.0, length-set lines k (front ++ back)) in
        let Q : List ℕ → Type 0 = λ l. Contains l y in
        elim (cases_eq j k) [
          | inl same ↦
              let R : ℕ → Type 0 = λ i. Contains (line_at lines i) y in
              let here : Contains (front ++ place ∷ back) y = subst Q stands.1 (subst R same has.1) in
              let kept : Contains (front ++ back) y =
              elim (Contains-append_cases front (place ∷ back) y here) [
                | inl left ↦ Contains-append_left front back y left
                | inr right ↦ elim (contains_cons_cases place y back right) [
                  | inl it ↦ absurd (apart (sym it))
                  | inr later ↦ Contains-append_right front back y later
                ]
              ] in
              let P : ℕ → Type 0 = λ i. Contains (line_at (set lines k (front ++ back)) i) y in
              (within, subst P (sym same) (subst Q (sym (get_or-set_same lines k (front ++ back) [] stands.0)) kept))
          | inr differs ↦ (within, subst Q (sym (get_or-set_other lines k j (front ++ back) [] differs)) has.1)
        ]

    -- a place that was taken out stands in no line
    pub removed_absent : (j : ℕ) → StandsIn (set lines k (front ++ back)) j place → ⊥
    removed_absent j has = (removed_loses j place has).1 refl

    pub removed_total : sum_by length (set lines k (front ++ back)) + 1 ≡ sum_by length lines
    removed_total =
        omega (arith, sum_by-set length lines k (front ++ back) [] stands.0, length-append front back, ap length stands.1, length-append front (place ∷ back))

-- a place that joins a line is there, and nothing else changes
module _ (lines : List (List ℕ)) (k place : ℕ) (front back : List ℕ) (within_k : k < length lines) (line : line_at lines k ≡ front ++ back) where
  pub joined_here : StandsIn (set lines k (front ++ place ∷ back)) k place
  joined_here =
      let Q : List ℕ → Type 0 = λ l. Contains l place in
      (omega (arith, within_k, length-set lines k (front ++ place ∷ back)), subst Q (sym (get_or-set_same lines k (front ++ place ∷ back) [] within_k)) (contains_between place front back))

  pub joined_keeps : (j y : ℕ) → StandsIn lines j y → StandsIn (set lines k (front ++ place ∷ back)) j y
  joined_keeps j y has =
      let within : j < length (set lines k (front ++ place ∷ back)) = omega (arith, has.0, length-set lines k (front ++ place ∷ back)) in
      let Q : List ℕ → Type 0 = λ l. Contains l y in
      elim (cases_eq j k) [
        | inl same ↦
            let R : ℕ → Type 0 = λ i. Contains (line_at lines i) y in
            let here : Contains (front ++ back) y = subst Q line (subst R same has.1) in
            let kept : Contains (front ++ place ∷ back) y =
            elim (Contains-append_cases front back y here) [
              | inl left ↦ Contains-append_left front (place ∷ back) y left
              | inr right ↦ Contains-append_right front (place ∷ back) y (contains_cons place y back right)
            ] in
            let P : ℕ → Type 0 = λ i. Contains (line_at (set lines k (front ++ place ∷ back)) i) y in
            (within, subst P (sym same) (subst Q (sym (get_or-set_same lines k (front ++ place ∷ back) [] within_k)) kept))
        | inr differs ↦ (within, subst Q (sym (get_or-set_other lines k j (front ++ place ∷ back) [] differs)) has.1)
      ]

  pub joined_cases : (j y : ℕ) → StandsIn (set lines k (front ++ place ∷ back)) j y → StandsIn lines j y ⊎ ((place ≡ y) × (j ≡ k))
  joined_cases j y has =
      let within : j < length lines = omega (arith, has.0, length-set lines k (front ++ place ∷ back)) in
      let Q : List ℕ → Type 0 = λ l. Contains l y in
      elim (cases_eq j k) [
        | inl same ↦
            let P : ℕ → Type 0 = λ i. Contains (line_at (set lines k (front ++ place ∷ back)) i) y in
            let here : Contains (front ++ place ∷ back) y = subst Q (get_or-set_same lines k (front ++ place ∷ back) [] within_k) (subst P same has.1) in
            let R : ℕ → Type 0 = λ i. Contains (line_at lines i) y in
            let back_in : Contains (front ++ back) y → StandsIn lines j y = λ l. (within, subst R (sym same) (subst Q (sym line) l)) in
            elim (Contains-append_cases front (place ∷ back) y here) [
              | inl left ↦ inl (back_in (Contains-append_left front back y left))
              | inr right ↦ elim (contains_cons_cases place y back right) [
                | inl it ↦ inr (it, same)
                | inr later ↦ inl (back_in (Contains-append_right front back y later))
              ]
            ]
        | inr differs ↦ inl (within, subst Q (get_or-set_other lines k j (front ++ place ∷ back) [] differs) has.1)
      ]

  pub joined_total : sum_by length (set lines k (front ++ place ∷ back)) ≡ sum_by length lines + 1
  joined_total =
      omega (arith, sum_by-set length lines k (front ++ place ∷ back) [] within_k, length-append front back, ap length line, length-append front (place ∷ back))

-- where a place joins a line: the line is cut in two there
pub insertion_split : (old new : List (List ℕ)) (k : ℕ) (before : Option ℕ) (place : ℕ) → IsInserted old new k before place → k < length old → ((after : ℕ) → before ≡ Some after → StandsIn old k after)
    → (front : List ℕ) × (back : List ℕ) × (line_at old k ≡ front ++ back) × (new ≡ set old k (front ++ place ∷ back))
insertion_split old new k None place inserted within stands = (line_at old k, [], sym (append-nil (line_at old k)), inserted)
insertion_split old new k (Some after) place inserted within stands =
    let parts = split_at after (line_at old k) (stands after refl).1 in
    (parts.0, after ∷ parts.1, parts.2, inserted parts.0 parts.1 (within, parts.2))
