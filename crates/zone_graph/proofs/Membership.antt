-- What is in a list, by recursion on it.
use Rattle.std.proofs.Common.{◌≡◌, ◌≢◌, ◌∙◌, ◌+◌, ◌<◌, ◌≤◌, ◌⊎◌, inl, inr, ℕ, zero, suc, Bool, true, false, cond, not, ◌||◌, List, [], ◌∷◌, ◌++◌, length, map, filter, flat_map, nat_eq, refl, sym, ap, subst, arith, eq-eqb, eqb-true}
use Rattle.std.proofs.lemmas.Bool.{true≢false, eqb-false}
use Rattle.std.specs.List.{range_with_len}
use Rattle.zone_graph.specs.Route.{IsIn, without, has}

pub IsIn-left : {X : Type 0} (x : X) (xs ys : List X) → IsIn x xs → IsIn x (xs ++ ys)
IsIn-left x [] ys h = absurd h
IsIn-left x (y ∷ xs) ys h = elim h [ inl e ↦ inl e | inr i ↦ inr (IsIn-left x xs ys i) ]

pub IsIn-right : {X : Type 0} (x : X) (xs ys : List X) → IsIn x ys → IsIn x (xs ++ ys)
IsIn-right x [] ys h = h
IsIn-right x (y ∷ xs) ys h = inr (IsIn-right x xs ys h)

pub IsIn-append : {X : Type 0} (x : X) (xs ys : List X) → IsIn x (xs ++ ys) → IsIn x xs ⊎ IsIn x ys
IsIn-append x [] ys h = inr h
IsIn-append x (y ∷ xs) ys h =
    elim h [ inl e ↦ inl (inl e) | inr i ↦ elim (IsIn-append x xs ys i) [ inl l ↦ inl (inr l) | inr r ↦ inr r ] ]

pub IsIn-map : {X Y : Type 0} (f : X → Y) (x : X) (xs : List X) → IsIn x xs → IsIn (f x) (map f xs)
IsIn-map f x [] h = absurd h
IsIn-map f x (y ∷ xs) h = elim h [ inl e ↦ inl (ap f e) | inr i ↦ inr (IsIn-map f x xs i) ]

-- what is in a `map` comes from an item
pub from_map : {X Y : Type 0} (f : X → Y) (z : Y) (xs : List X) → IsIn z (map f xs) → (x : X) × IsIn x xs × (z ≡ f x)
from_map f z [] h = absurd h
from_map f z (y ∷ xs) h = elim h [
  | inl e ↦ (y, inl refl, e)
  | inr i ↦ let r = from_map f z xs i in (r.0, inr r.1, r.2)
]

pub IsIn-flat_map : {X Y : Type 0} (f : X → List Y) (x : X) (z : Y) (xs : List X) → IsIn x xs → IsIn z (f x) → IsIn z (flat_map f xs)
IsIn-flat_map f x z [] h k = absurd h
IsIn-flat_map f x z (y ∷ xs) h k = elim h [
  | inl e ↦ IsIn-left z (f y) (flat_map f xs) (subst (λ w. IsIn z (f w)) e k)
  | inr i ↦ IsIn-right z (f y) (flat_map f xs) (IsIn-flat_map f x z xs i k)
]

-- what is in a `flat_map` comes from an item
pub from_flat_map : {X Y : Type 0} (f : X → List Y) (z : Y) (xs : List X) → IsIn z (flat_map f xs) → (x : X) × IsIn x xs × IsIn z (f x)
from_flat_map f z [] h = absurd h
from_flat_map f z (y ∷ xs) h = elim (IsIn-append z (f y) (flat_map f xs) h) [
  | inl l ↦ (y, inl refl, l)
  | inr i ↦ let r = from_flat_map f z xs i in (r.0, inr r.1, r.2)
]

pub IsIn-filter : {X : Type 0} (p : X → Bool) (x : X) (xs : List X) → IsIn x xs → p x ≡ true → IsIn x (filter p xs)
IsIn-filter p x [] h e = absurd h
IsIn-filter p x (y ∷ xs) h e =
    elim (p y) as (λ b. p y ≡ b → IsIn x (cond b (y ∷ filter p xs) (filter p xs))) [
      | true ↦ λ t. elim h [ inl s ↦ inl s | inr i ↦ inr (IsIn-filter p x xs i e) ]
      | false ↦ λ t. elim h [ inl s ↦ absurd (true≢false (sym e ∙ ap p s ∙ t)) | inr i ↦ IsIn-filter p x xs i e ]
    ] refl

-- what a filter keeps is an item that passes
pub from_filter : {X : Type 0} (p : X → Bool) (x : X) (xs : List X) → IsIn x (filter p xs) → IsIn x xs × (p x ≡ true)
from_filter p x [] h = absurd h
from_filter p x (y ∷ xs) h =
    elim (p y) as (λ b. p y ≡ b → IsIn x (cond b (y ∷ filter p xs) (filter p xs)) → IsIn x (y ∷ xs) × (p x ≡ true)) [
      | true ↦ λ t k. elim k [
        | inl s ↦ (inl s, ap p s ∙ t)
        | inr i ↦ let r = from_filter p x xs i in (inr r.0, r.1)
      ]
      | false ↦ λ t k. let r = from_filter p x xs k in (inr r.0, r.1)
    ] refl h

-- ---- zones

pub has-IsIn : (zone : ℕ) (zones : List ℕ) → IsIn zone zones → has zone zones ≡ true
has-IsIn zone [] h = absurd h
has-IsIn zone (other ∷ zones) h =
    elim (nat_eq other zone) as (λ b. nat_eq other zone ≡ b → (b || has zone zones) ≡ true) [
      | true ↦ λ t. refl
      | false ↦ λ t. elim h [ inl e ↦ absurd (eqb-false other zone t (sym e)) | inr i ↦ has-IsIn zone zones i ]
    ] refl

pub IsIn-has : (zone : ℕ) (zones : List ℕ) → has zone zones ≡ true → IsIn zone zones
IsIn-has zone [] h = absurd (true≢false (sym h))
IsIn-has zone (other ∷ zones) h =
    elim (nat_eq other zone) as (λ b. nat_eq other zone ≡ b → (b || has zone zones) ≡ true → IsIn zone (other ∷ zones)) [
      | true ↦ λ t k. inl (sym (eqb-true other zone t))
      | false ↦ λ t k. inr (IsIn-has zone zones k)
    ] refl h

-- a zone that is not the one taken away stays
pub IsIn-without : (zone other : ℕ) (zones : List ℕ) → IsIn other zones → other ≢ zone → IsIn other (without zone zones)
IsIn-without zone other zones h apart = IsIn-filter (λ z. not (nat_eq z zone)) other zones h (not_equal (nat_eq other zone) refl)
  where
    not_equal : (b : Bool) → nat_eq other zone ≡ b → not (nat_eq other zone) ≡ true
    not_equal true e = absurd (apart (eqb-true other zone e))
    not_equal false e = ap not e

-- what is left is not the one taken away, and was there
pub from_without : (zone other : ℕ) (zones : List ℕ) → IsIn other (without zone zones) → IsIn other zones × (other ≢ zone)
from_without zone other zones h =
    let r = from_filter (λ z. not (nat_eq z zone)) other zones h in
    (r.0, λ same. absurd (true≢false (sym r.1 ∙ ap not (eq-eqb other zone same))))

-- taking away a zone that is there makes the list shorter
pub length-without : (zone : ℕ) (zones : List ℕ) → IsIn zone zones → length (without zone zones) < length zones
length-without zone [] h = absurd h
length-without zone (other ∷ zones) h =
    elim (nat_eq other zone) as (λ b. nat_eq other zone ≡ b → length (cond (not b) (other ∷ without zone zones) (without zone zones)) < length (other ∷ zones)) [
      | true ↦ λ t. let most = no_longer zone zones in omega (arith, most)
      | false ↦ λ t. elim h [ inl e ↦ absurd (eqb-false other zone t (sym e)) | inr i ↦ let less = length-without zone zones i in omega (arith, less) ]
    ] refl
  where
    no_longer : (zone : ℕ) (zones : List ℕ) → length (without zone zones) ≤ length zones
    no_longer zone [] = omega arith
    no_longer zone (other ∷ zones) =
        let rest = no_longer zone zones in
        elim (nat_eq other zone) as (λ b. length (cond (not b) (other ∷ without zone zones) (without zone zones)) ≤ length (other ∷ zones)) [
          | true ↦ omega (arith, rest)
          | false ↦ omega (arith, rest)
        ]

pub IsIn-range : (k a n : ℕ) → a ≤ k → k < a + n → IsIn k (range_with_len a n)
IsIn-range k a zero low high = absurd (omega arith)
IsIn-range k a (suc n) low high =
    elim (nat_eq k a) as (λ b. nat_eq k a ≡ b → IsIn k (a ∷ range_with_len (a + 1) n)) [
      | true ↦ λ t. inl (eqb-true k a t)
      | false ↦ λ t. let apart : k ≢ a = eqb-false k a t in inr (IsIn-range k (a + 1) n (omega arith) (omega arith))
    ] refl

pub from_range : (k a n : ℕ) → IsIn k (range_with_len a n) → (a ≤ k) × (k < a + n)
from_range k a zero h = absurd h
from_range k a (suc n) h = elim h [
  | inl e ↦ (omega arith, omega arith)
  | inr i ↦ let r = from_range k (a + 1) n i in (omega (arith, r.0), omega (arith, r.1))
]
