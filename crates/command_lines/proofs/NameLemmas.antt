-- Places in a list of names.
use Rattle.std.proofs.Common.{◌≡◌, ℕ, ◌+◌, ◌≤◌, Bool, true, false, not, cond, List, [], ◌∷◌, map, refl, ap, nat_lt, ◌<◌, Some, None, arith}
use Rattle.std.proofs.Common.{nat_eq, ◌++◌, ◌∙◌, sym, if◌then◌else◌}
use Rattle.std.specs.Cmp.Lexicographic.{pointwise}
use Rattle.indexmap.specs.IndexSet.{insert_key}
use Rattle.command_lines.specs.Names.{place_of}
use Rattle.std.specs.List.{position, position_or_len}
use Rattle.std.proofs.lemmas.List.{length-map, map-append}
use Rattle.std.proofs.lemmas.Bool.Decides.{nat_tests}
use Rattle.zone_graph.proofs.Again.{list_any-no_position}

-- the first place of an item of a mapped list
pub position_or_len-map : {A B : Type 0} (p : B → Bool) (f : A → B) (xs : List A) → position_or_len p (map f xs) ≡ position_or_len (λ x. p (f x)) xs
position_or_len-map p f [] = refl
position_or_len-map p f (x ∷ xs) = ap (λ n. cond (not (p (f x))) (1 + n) 0) (position_or_len-map p f xs)

-- the same, where there may be none
pub position-map : {A B : Type 0} (p : B → Bool) (f : A → B) (xs : List A) → position p (map f xs) ≡ position (λ x. p (f x)) xs
position-map p f xs = rw (position_or_len-map p f xs, length-map xs f) refl

-- a place that is none is past the end
pub none_past_end : (n len : ℕ) → cond (nat_lt n len) (Some n) None ≡ None → len ≤ n
none_past_end n len h = grind (arith, nat_tests)

-- the names of a set to which a name is added that is not there
pub declared : {V : Type 0} (bytes : V → List ℕ) (keys : List V) (key : V) (names : List (List ℕ)) (name : List ℕ)
    → map bytes keys ≡ names → bytes key ≡ name → place_of names name ≡ None
    → map bytes (insert_key (λ a b. pointwise nat_eq (bytes a) (bytes b)) keys key) ≡ names ++ name ∷ []
declared bytes keys key names name as_names as_name none =
    let absent_key = list_any-no_position (λ k. pointwise nat_eq (bytes key) (bytes k)) keys
    (sym (position-map (pointwise nat_eq (bytes key)) bytes keys)
    ∙ ap (λ n. place_of (map bytes keys) n) as_name ∙ ap (λ ns. place_of ns name) as_names ∙ none) in
    ap (λ b. map bytes (if b then keys else keys ++ key ∷ [])) absent_key
    ∙ map-append bytes keys (key ∷ [])
    ∙ ap (λ n. map bytes keys ++ n ∷ []) as_name
    ∙ ap (λ ns. ns ++ name ∷ []) as_names

-- a place that is found is the first that passes
pub some_place : (n len place : ℕ) → cond (nat_lt n len) (Some n) None ≡ Some place → (place ≡ n) × (n < len)
some_place n len place h = by (nat_lt n len) refl h
  where
    by : (b : Bool) → nat_lt n len ≡ b → cond b (Some n) None ≡ Some place → (place ≡ n) × (n < len)
    by true e some = (cc, grind (arith, nat_tests))
    by false e some = cc
