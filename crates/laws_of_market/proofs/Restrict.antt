-- What a list says is what the part of it says that matters.
use Rattle.std.proofs.Common.{◌≡◌, ◌∙◌, inl, inr, Bool, true, false, cond, List, [], ◌∷◌, filter, fold, map, Option, Some, None, refl, sym, ap}
use Rattle.std.proofs.lemmas.Bool.{true≢false}
use Rattle.std.specs.List.{cons_option, filter_map, find}
use Rattle.zone_graph.specs.Route.{IsIn}

-- a fold passes over what changes nothing
pub fold-filter : {A B : Type 0} (f : B → A → B) (p : A → Bool) (xs : List A) → ((x : A) → IsIn x xs → p x ≡ false → (b : B) → f b x ≡ b)
    → (b : B) → fold f b (filter p xs) ≡ fold f b xs
fold-filter f p [] same b = refl
fold-filter {A} {B} f p (x ∷ xs) same b = go (λ c. fold-filter f p xs (λ y i. same y (inr i)) c) (p x) refl
  where
    go : ((c : B) → fold f c (filter p xs) ≡ fold f c xs) → (t : Bool) → p x ≡ t → fold f b (cond t (x ∷ filter p xs) (filter p xs)) ≡ fold f (f b x) xs
    go rest true e = rest (f b x)
    go rest false e = rest b ∙ ap (λ c. fold f c xs) (sym (same x (inl refl) e b))

-- what is picked and passes a test comes from what matters for it
pub picked-filter : {X Y : Type 0} (pick : X → Option Y) (q : Y → Bool) (p : X → Bool) (xs : List X)
    → ((x : X) (y : Y) → IsIn x xs → p x ≡ false → pick x ≡ Some y → q y ≡ false) → filter q (filter_map pick (filter p xs)) ≡ filter q (filter_map pick xs)
picked-filter pick q p [] other = refl
picked-filter {X} {Y} pick q p (x ∷ xs) other = go (picked-filter pick q p xs (λ z y i. other z y (inr i))) (p x) refl
  where
    by_pick : filter q (filter_map pick (filter p xs)) ≡ filter q (filter_map pick xs) → (o : Option Y) → pick x ≡ o → p x ≡ false
        → filter q (filter_map pick (filter p xs)) ≡ filter q (cons_option o (filter_map pick xs))
    by_pick rest None is e = rest
    by_pick rest (Some y) is e = rest ∙ sym (rw (other x y (inl refl) e is) refl)

    both : filter q (filter_map pick (filter p xs)) ≡ filter q (filter_map pick xs) → (o : Option Y)
        → filter q (cons_option o (filter_map pick (filter p xs))) ≡ filter q (cons_option o (filter_map pick xs))
    both rest None = rest
    both rest (Some y) = ap (λ ys. cond (q y) (y ∷ ys) ys) rest

    go : filter q (filter_map pick (filter p xs)) ≡ filter q (filter_map pick xs) → (t : Bool) → p x ≡ t
        → filter q (filter_map pick (cond t (x ∷ filter p xs) (filter p xs))) ≡ filter q (cons_option (pick x) (filter_map pick xs))
    go rest true e = both rest (pick x)
    go rest false e = by_pick rest (pick x) refl e

-- tests and functions that agree on what is in a list
pub filter-same : {X : Type 0} (p q : X → Bool) (xs : List X) → ((x : X) → IsIn x xs → p x ≡ q x) → filter p xs ≡ filter q xs
filter-same p q [] same = refl
filter-same p q (x ∷ xs) same = rw (same x (inl refl), filter-same p q xs (λ y i. same y (inr i))) refl

pub map-same : {X Y : Type 0} (f g : X → Y) (xs : List X) → ((x : X) → IsIn x xs → f x ≡ g x) → map f xs ≡ map g xs
map-same f g [] same = refl
map-same f g (x ∷ xs) same = rw (same x (inl refl), map-same f g xs (λ y i. same y (inr i))) refl

pub find-same : {X : Type 0} (p q : X → Bool) (xs : List X) → ((x : X) → IsIn x xs → p x ≡ q x) → find p xs ≡ find q xs
find-same p q [] same = refl
find-same p q (x ∷ xs) same = rw (same x (inl refl), find-same p q xs (λ y i. same y (inr i))) refl

-- a filter of a filter by a weaker test is the filter
pub filter-filter : {X : Type 0} (p q : X → Bool) (xs : List X) → ((x : X) → IsIn x xs → p x ≡ true → q x ≡ true) → filter p (filter q xs) ≡ filter p xs
filter-filter p q [] weaker = refl
filter-filter {X} p q (x ∷ xs) weaker = go (filter-filter p q xs (λ y i. weaker y (inr i))) (p x) (q x) refl refl
  where
    go : filter p (filter q xs) ≡ filter p xs → (a b : Bool) → p x ≡ a → q x ≡ b → filter p (cond b (x ∷ filter q xs) (filter q xs)) ≡ cond a (x ∷ filter p xs) (filter p xs)
    go rest true true e k = rw e (ap (λ ys. x ∷ ys) rest)
    go rest true false e k = absurd (true≢false (sym (weaker x (inl refl) e) ∙ k))
    go rest false true e k = rw e rest
    go rest false false e k = rest

-- so is a search
pub find-filter : {X : Type 0} (p q : X → Bool) (xs : List X) → ((x : X) → IsIn x xs → p x ≡ true → q x ≡ true) → find p (filter q xs) ≡ find p xs
find-filter p q [] weaker = refl
find-filter {X} p q (x ∷ xs) weaker = go (find-filter p q xs (λ y i. weaker y (inr i))) (p x) (q x) refl refl
  where
    go : find p (filter q xs) ≡ find p xs → (a b : Bool) → p x ≡ a → q x ≡ b → find p (cond b (x ∷ filter q xs) (filter q xs)) ≡ cond a (Some x) (find p xs)
    go rest true true e k = rw e refl
    go rest true false e k = absurd (true≢false (sym (weaker x (inl refl) e) ∙ k))
    go rest false true e k = rw e rest
    go rest false false e k = rest

-- a filter of what comes from items
pub filter-map : {X Y : Type 0} (p : Y → Bool) (f : X → Y) (xs : List X) → filter p (map f xs) ≡ map f (filter (λ x. p (f x)) xs)
filter-map p f [] = refl
filter-map {X} {Y} p f (x ∷ xs) = go (p (f x)) (filter-map p f xs)
  where
    go : (b : Bool) → filter p (map f xs) ≡ map f (filter (λ y. p (f y)) xs)
        → cond b (f x ∷ filter p (map f xs)) (filter p (map f xs)) ≡ map f (cond b (x ∷ filter (λ y. p (f y)) xs) (filter (λ y. p (f y)) xs))
    go true rest = ap (λ ys. f x ∷ ys) rest
    go false rest = rest
