-- Rows in a list that grows, and of which one is set.
use Rattle.std.proofs.Common.{◌≡◌, ◌≢◌, ◌∙◌, ◌+◌, ◌<◌, ◌||◌, inl, inr, ℕ, zero, suc, Bool, true, List, [], ◌∷◌, ◌++◌, get_or, length, set, refl, sym, ap, subst, arith}
use Rattle.std.proofs.lemmas.Bool.{cases_eq, or_cases, true≢false}
use Rattle.std.proofs.lemmas.List.{get_or-set_other, get_or-set_same}
use Rattle.std.proofs.lemmas.List.Folds.{list_any-append}
use Rattle.std.specs.List.{list_any, range_with_len}
use Rattle.cut_proof.proofs.ArcSums.{range_more}
use Rattle.zone_graph.specs.Route.{IsIn}
use Rattle.zone_graph.proofs.Again.{or-false}

-- what holds of each item and of one more behind them
pub each-push : {X : Type 0} (Q : X → Type 0) (d : X) (xs : List X) (x : X) → ((k : ℕ) → k < length xs → Q (get_or xs k d)) → Q x
    → (k : ℕ) → k < length xs + 1 → Q (get_or (xs ++ x ∷ []) k d)
each-push Q d [] x each own zero low = own
each-push Q d [] x each own (suc k) low = absurd (let no : ⊥ = omega (arith, low) in no)
each-push Q d (y ∷ xs) x each own zero low = each zero (omega arith)
each-push Q d (y ∷ xs) x each own (suc k) low = each-push Q d xs x (λ j less. each (suc j) (omega (arith, less))) own k (omega (arith, low))

-- what holds of each place, where one item is set for which it holds there
pub each-set : {X : Type 0} (P : ℕ → X → Type 0) (d : X) (xs : List X) (i : ℕ) (x : X) → i < length xs → P i x → (k : ℕ) → (k ≢ i → P k (get_or xs k d)) → P k (get_or (set xs i x) k d)
each-set P d xs i x within own k other = elim (cases_eq k i) [
  | inl same ↦ subst (λ j. P j (get_or (set xs i x) j d)) (sym same) (subst (P i) (sym (get_or-set_same xs i x d within)) own)
  | inr apart ↦ subst (P k) (sym (get_or-set_other xs i k x d apart)) (other apart)
]

-- of one more number
pub any-range-more : (p : ℕ → Bool) (n : ℕ) → list_any p (range_with_len 0 (n + 1)) ≡ (list_any p (range_with_len 0 n) || p n)
any-range-more p n =
    ap (list_any p)
    (ap (range_with_len 0) (let next : n + 1 ≡ suc n = omega arith in next) ∙ range_more 0 n
    ∙ ap (λ k. range_with_len 0 n ++ k ∷ []) (let plain : 0 + n ≡ n = omega arith in plain))
    ∙ list_any-append p (range_with_len 0 n) (n ∷ [])
    ∙ ap (λ b. list_any p (range_with_len 0 n) || b) (or-false (p n))

-- where some item passes one does
pub from_some : {X : Type 0} (p : X → Bool) (xs : List X) → list_any p xs ≡ true → (x : X) × IsIn x xs × (p x ≡ true)
from_some p [] is = absurd (true≢false (sym is))
from_some p (x ∷ xs) is = elim (or_cases (p x) (list_any p xs) is) [
  | inl here ↦ (x, inl refl, here)
  | inr later ↦ (let found = from_some p xs later in (found.0, inr found.1, found.2))
]
