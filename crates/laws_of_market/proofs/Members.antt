-- What is in a list that is searched, put in order or picked from another one.
use Rattle.std.proofs.Common.{◌≡◌, ◌∙◌, ◌⊎◌, inl, inr, List, [], ◌∷◌, fold, Option, Some, None, refl, sym, ap, subst}
use Rattle.std.specs.List.{cons_option, filter_map}
use Rattle.std.specs.declared.cmp.Ordering.{Ordering}
use Rattle.zone_graph.specs.Route.{IsIn}
use Rattle.market_model.specs.Sweep.{first_answer, or_else}
use Rattle.zone_graph.specs.InOrder.{put_in_order, in_order}
use Rattle.zone_graph.proofs.InOrder.{from_put_in_order, IsIn-put_in_order}

-- what is picked comes from an item
pub from_filter_map : {X Y : Type 0} (f : X → Option Y) (y : Y) (xs : List X) → IsIn y (filter_map f xs) → (x : X) × IsIn x xs × (f x ≡ Some y)
from_filter_map f y [] h = absurd h
from_filter_map {X} {Y} f y (x ∷ xs) h = go (from_filter_map f y xs) (f x) refl h
  where
    go : (IsIn y (filter_map f xs) → (z : X) × IsIn z xs × (f z ≡ Some y))
        → (o : Option Y) → f x ≡ o → IsIn y (cons_option o (filter_map f xs)) → (z : X) × IsIn z (x ∷ xs) × (f z ≡ Some y)
    go later None e k = let r = later k in (r.0, inr r.1, r.2)
    go later (Some w) e k = elim k [
      | inl s ↦ (x, inl refl, e ∙ ap Some (sym s))
      | inr i ↦ let r = later i in (r.0, inr r.1, r.2)
    ]

-- and an item gives what is picked
pub IsIn-filter_map : {X Y : Type 0} (f : X → Option Y) (x : X) (y : Y) (xs : List X) → IsIn x xs → f x ≡ Some y → IsIn y (filter_map f xs)
IsIn-filter_map f x y [] h e = absurd h
IsIn-filter_map {X} {Y} f x y (w ∷ xs) h e = elim h [
  | inl s ↦ subst (λ o. IsIn y (cons_option o (filter_map f xs))) (sym (ap f (sym s) ∙ e)) (inl refl)
  | inr i ↦ later (f w) (IsIn-filter_map f x y xs i e)
]
  where
    later : (o : Option Y) → IsIn y (filter_map f xs) → IsIn y (cons_option o (filter_map f xs))
    later None i = i
    later (Some z) i = inr i

from_fold : {X : Type 0} (cmp : X → X → Ordering) (z : X) (ys xs : List X) → IsIn z (fold (put_in_order cmp) ys xs) → IsIn z ys ⊎ IsIn z xs
from_fold cmp z ys [] h = inl h
from_fold cmp z ys (x ∷ xs) h = elim (from_fold cmp z (put_in_order cmp ys x) xs h) [
  | inl i ↦ elim (from_put_in_order cmp z ys x i) [ inl e ↦ inr (inl e) | inr j ↦ inl j ]
  | inr i ↦ inr (inr i)
]

IsIn-fold : {X : Type 0} (cmp : X → X → Ordering) (z : X) (ys xs : List X) → IsIn z ys ⊎ IsIn z xs → IsIn z (fold (put_in_order cmp) ys xs)
IsIn-fold cmp z ys [] h = elim h [ inl i ↦ i | inr i ↦ absurd i ]
IsIn-fold cmp z ys (x ∷ xs) h = IsIn-fold cmp z (put_in_order cmp ys x) xs (elim h [
  | inl i ↦ inl (IsIn-put_in_order cmp z ys x (inr i))
  | inr i ↦ elim i [ inl e ↦ inl (IsIn-put_in_order cmp z ys x (inl e)) | inr j ↦ inr j ]
])

-- a list in order has the same items
pub from_in_order : {X : Type 0} (cmp : X → X → Ordering) (z : X) (xs : List X) → IsIn z (in_order cmp xs) → IsIn z xs
from_in_order cmp z xs h = elim (from_fold cmp z [] xs h) [ inl i ↦ absurd i | inr i ↦ i ]

pub IsIn-in_order : {X : Type 0} (cmp : X → X → Ordering) (z : X) (xs : List X) → IsIn z xs → IsIn z (in_order cmp xs)
IsIn-in_order cmp z xs h = IsIn-fold cmp z [] xs (inr h)

-- the first answer is that of an item
pub from_first_answer : {X Y : Type 0} (ask : X → Option Y) (y : Y) (xs : List X) → first_answer ask xs ≡ Some y → (x : X) × IsIn x xs × (ask x ≡ Some y)
from_first_answer ask y [] e = absurd (cc)
from_first_answer {X} {Y} ask y (x ∷ xs) e = go (from_first_answer ask y xs) (ask x) refl e
  where
    go : (first_answer ask xs ≡ Some y → (z : X) × IsIn z xs × (ask z ≡ Some y)) → (o : Option Y) → ask x ≡ o → or_else o (λ _. first_answer ask xs) ≡ Some y → (z : X) × IsIn z (x ∷ xs) × (ask z ≡ Some y)
    go later None is k = let r = later k in (r.0, inr r.1, r.2)
    go later (Some w) is k = (x, inl refl, is ∙ k)

-- no item has an answer where there is none
pub first_answer-none : {X Y : Type 0} (ask : X → Option Y) (xs : List X) → first_answer ask xs ≡ None → (x : X) → IsIn x xs → ask x ≡ None
first_answer-none ask [] e x h = absurd h
first_answer-none {X} {Y} ask (w ∷ xs) e x h = go (λ k i. first_answer-none ask xs k x i) (ask w) refl e
  where
    go : (first_answer ask xs ≡ None → IsIn x xs → ask x ≡ None)
        → (o : Option Y) → ask w ≡ o → or_else o (λ _. first_answer ask xs) ≡ None → ask x ≡ None
    go later None is k = elim h [ inl s ↦ ap ask s ∙ is | inr i ↦ later k i ]
    go later (Some v) is k = absurd (cc)
