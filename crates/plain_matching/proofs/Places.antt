-- Lists that are gone through by place.
use Rattle.std.proofs.Common.{◌≡◌, ◌∙◌, ℕ, suc, ◌+◌, ◌<◌, ◌||◌, Bool, true, false, cond, List, [], ◌∷◌, drop, get_or, length, Option, Some, None, refl, sym, ap, inl, inr, add-one, drop-cons}
use Rattle.std.proofs.lemmas.Bool.{true≢false}
use Rattle.std.specs.List.{find, list_any}
use Rattle.zone_graph.specs.Route.{IsIn}
use Rattle.market_model.specs.Sweep.{first_answer, or_else}

-- the items from a place on are the one there and the ones from the next place on
pub from_place : {X : Type 0} (xs : List X) (k : ℕ) (x : X) → k < length xs → x ≡ get_or xs k x → drop k xs ≡ x ∷ drop (k + 1) xs
from_place xs k x within is =
    drop-cons xs k x within ∙ ap (λ y. y ∷ drop (suc k) xs) (sym is) ∙ ap (λ n. x ∷ drop n xs) (sym (add-one k))

-- ---- the first answer

pub first_answer-next : {X Y : Type 0} (ask : X → Option Y) (xs : List X) (k : ℕ) (x : X) → k < length xs → x ≡ get_or xs k x → ask x ≡ None
    → first_answer ask (drop (k + 1) xs) ≡ first_answer ask (drop k xs)
first_answer-next ask xs k x within is none =
    sym (ap (first_answer ask) (from_place xs k x within is) ∙ ap (λ o. or_else o (λ _. first_answer ask (drop (k + 1) xs))) none)

pub first_answer-found : {X Y : Type 0} (ask : X → Option Y) (xs : List X) (k : ℕ) (x : X) (y : Y) → k < length xs → x ≡ get_or xs k x → ask x ≡ Some y
    → first_answer ask (drop k xs) ≡ Some y
first_answer-found ask xs k x y within is found =
    ap (first_answer ask) (from_place xs k x within is) ∙ ap (λ o. or_else o (λ _. first_answer ask (drop (k + 1) xs))) found

pub first_answer-nothing : {X Y : Type 0} (ask : X → Option Y) (xs : List X) → ((x : X) → IsIn x xs → ask x ≡ None) → first_answer ask xs ≡ None
first_answer-nothing ask [] none = refl
first_answer-nothing ask (x ∷ xs) none =
    ap (λ o. or_else o (λ _. first_answer ask xs)) (none x (inl refl)) ∙ first_answer-nothing ask xs (λ y i. none y (inr i))

-- ---- tests

-- nothing is found where no item passes a weaker test
pub find-nothing : {X : Type 0} (p q : X → Bool) (xs : List X) → ((x : X) → q x ≡ false → p x ≡ false) → list_any q xs ≡ false → find p xs ≡ None
find-nothing p q [] weaker none = refl
find-nothing {X} p q (x ∷ xs) weaker none = go (find-nothing p q xs weaker) (q x) refl none
  where
    go : (list_any q xs ≡ false → find p xs ≡ None) → (b : Bool) → q x ≡ b → (b || list_any q xs) ≡ false → cond (p x) (Some x) (find p xs) ≡ None
    go rest true is k = absurd (true≢false k)
    go rest false is k = ap (λ t. cond t (Some x) (find p xs)) (weaker x is) ∙ rest k
