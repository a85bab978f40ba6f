-- What is found in a list.
use Rattle.std.proofs.Common.{◌≡◌, ◌∙◌, ◌&&◌, inl, inr, Bool, true, false, cond, List, [], ◌∷◌, map, filter, find, Option, Some, None, is_some, option_map, refl, sym, ap}
use Rattle.std.proofs.lemmas.Bool.{true≢false}
use Rattle.zone_graph.specs.Route.{IsIn}

-- an answer that is not there is none
pub none_from : {X : Type 0} (o : Option X) → is_some o ≡ false → o ≡ None
none_from None e = refl
none_from (Some x) e = absurd (true≢false e)

pub map-none : {X Y : Type 0} (f : X → Y) (o : Option X) → option_map f o ≡ None → o ≡ None
map-none f None e = refl
map-none f (Some x) e = cc

pub find-filter : {X : Type 0} (p q : X → Bool) (xs : List X) → find p (filter q xs) ≡ find (λ x. q x && p x) xs
find-filter p q [] = refl
find-filter p q (x ∷ xs) = by (q x) (find-filter p q xs)
  where
    by : (b : Bool) → find p (filter q xs) ≡ find (λ y. q y && p y) xs
        → find p (cond b (x ∷ filter q xs) (filter q xs)) ≡ cond (b && p x) (Some x) (find (λ y. q y && p y) xs)
    by true rest = ap (cond (p x) (Some x)) rest
    by false rest = rest

pub option_map-find-map : {X Y Z : Type 0} (p : Y → Bool) (f : X → Y) (g : Y → Z) (xs : List X)
    → option_map g (find p (map f xs)) ≡ option_map (λ x. g (f x)) (find (λ x. p (f x)) xs)
option_map-find-map p f g [] = refl
option_map-find-map p f g (x ∷ xs) = by (p (f x)) (option_map-find-map p f g xs)
  where
    by : (b : Bool) → option_map g (find p (map f xs)) ≡ option_map (λ y. g (f y)) (find (λ y. p (f y)) xs)
        → option_map g (cond b (Some (f x)) (find p (map f xs))) ≡ option_map (λ y. g (f y)) (cond b (Some x) (find (λ y. p (f y)) xs))
    by true rest = refl
    by false rest = rest

pub find-map : {X Y : Type 0} (p : Y → Bool) (f : X → Y) (xs : List X) → find p (map f xs) ≡ option_map f (find (λ x. p (f x)) xs)
find-map p f [] = refl
find-map p f (x ∷ xs) = by (p (f x)) (find-map p f xs)
  where
    by : (b : Bool) → find p (map f xs) ≡ option_map f (find (λ y. p (f y)) xs)
        → cond b (Some (f x)) (find p (map f xs)) ≡ option_map f (cond b (Some x) (find (λ y. p (f y)) xs))
    by true rest = refl
    by false rest = rest

pub option_map-same : {X : Type 0} (o : Option X) → option_map (λ x. x) o ≡ o
option_map-same None = refl
option_map-same (Some x) = refl

-- what is found is an item that passes
pub from_find : {X : Type 0} (p : X → Bool) (x : X) (xs : List X) → find p xs ≡ Some x → IsIn x xs × (p x ≡ true)
from_find p x [] e = absurd (cc)
from_find {X} p x (y ∷ xs) e =
    elim (p y) as (λ b. p y ≡ b → cond b (Some y) (find p xs) ≡ Some x → IsIn x (y ∷ xs) × (p x ≡ true)) [
      | true ↦ λ t k. let same : y ≡ x = cc in (inl (sym same), ap p (sym same) ∙ t)
      | false ↦ λ t k. let r = from_find p x xs k in (inr r.0, r.1)
    ] refl e

-- an item that passes is found, or another one before it
pub find-IsIn : {X : Type 0} (p : X → Bool) (xs : List X) (x : X) → IsIn x xs → p x ≡ true → (y : X) × (find p xs ≡ Some y)
find-IsIn p [] x i e = absurd i
find-IsIn {X} p (z ∷ xs) x i e = by (p z) refl (λ j. find-IsIn p xs x j e)
  where
    by : (b : Bool) → p z ≡ b → (IsIn x xs → (y : X) × (find p xs ≡ Some y)) → (y : X) × (cond b (Some z) (find p xs) ≡ Some y)
    by true t rest = (z, refl)
    by false t rest = elim i [ inl s ↦ absurd (true≢false (sym e ∙ ap p s ∙ t)) | inr j ↦ rest j ]

-- where nothing is found, no item passes
pub find-none : {X : Type 0} (p : X → Bool) (xs : List X) → find p xs ≡ None → (x : X) → IsIn x xs → p x ≡ false
find-none p [] e x h = absurd h
find-none {X} p (y ∷ xs) e x h =
    elim (p y) as (λ b. p y ≡ b → cond b (Some y) (find p xs) ≡ None → p x ≡ false) [
      | true ↦ λ t k. absurd (cc)
      | false ↦ λ t k. elim h [ inl s ↦ ap p s ∙ t | inr i ↦ find-none p xs k x i ]
    ] refl e
