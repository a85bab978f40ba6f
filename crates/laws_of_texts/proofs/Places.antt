-- Where names stand among others, and which zones borders join.
use Rattle.std.proofs.Common.{◌≡◌, ℕ, ◌<◌, ◌==◌, ◌&&◌, ◌||◌, Bool, true, false, nat_eq, nat_lt, cond, List, [], length, map, get_or, refl, sym, ap, ◌∙◌, arith, ◌⊎◌, inl, inr, All, Option, Some, None}
use Rattle.std.specs.Prelude.{slice_set, unwrap_or, position}
use Rattle.std.specs.List.{AllPairs, Contains, list_any, position_or_len}
use Rattle.std.specs.Cmp.Lexicographic.{pointwise, same_text, other_text}
use Rattle.std.proofs.lemmas.Bool.{eqb-true}
use Rattle.std.proofs.lemmas.Bool.Decides.{nat_tests}
use Rattle.std.proofs.lemmas.List.{length-map, length-set, get_or-map, get_or-set_same, get_or-set_other, get_or_default, same_lists}
use Rattle.std.proofs.lemmas.List.Elements.{All-map}
use Rattle.std.proofs.lemmas.List.Folds.{list_any_none, list_any_at}
use Rattle.std.proofs.lemmas.List.Quantifiers.{position-Some}
use Rattle.std.proofs.lemmas.List.Sums.{position_or_len_is, fails_before_first}
use Rattle.command_lines.proofs.NameLemmas.{none_past_end}
use Rattle.command_lines.specs.Names.{place_of, zone_number}
use Rattle.market_text.specs.Steps.{joins_zones}
use Rattle.laws_of_texts.specs.Contents.{IsSamePair, numbers_of}

-- another text fails the test
pub other_fails : (name other : List ℕ) → (¬ (other ≡ name)) → pointwise nat_eq name other ≡ false
other_fails name other differs = by (pointwise nat_eq name other) refl
  where
    by : (b : Bool) → pointwise nat_eq name other ≡ b → b ≡ false
    by true is = absurd (differs (sym (same_text name other (sym is))))
    by false is = refl

-- the same text passes it
pub same_passes : (name : List ℕ) → pointwise nat_eq name name ≡ true
same_passes name = by (pointwise nat_eq name name) refl
  where
    by : (b : Bool) → pointwise nat_eq name name ≡ b → b ≡ true
    by true is = refl
    by false is = absurd (other_text name name (sym is) refl)

-- the name at the place of a name
pub name_at_place : (names : List (List ℕ)) (name : List ℕ) (place : ℕ) → place_of names name ≡ Some place
    → (place < length names) × (get_or names place [] ≡ name)
name_at_place names name place is =
    let found = position-Some (pointwise nat_eq name) names place [] is in
    (found.0, sym (same_text name (get_or names place []) (sym found.1)))

-- nothing is found where the first place is past the end
not_found : {A : Type 0} (p : A → Bool) (xs : List A) → position_or_len p xs ≡ length xs → position p xs ≡ None
not_found p xs past =
    let e : nat_lt (position_or_len p xs) (length xs) ≡ false = grind (arith, nat_tests) in
    ap (λ b. cond b (Some (position_or_len p xs)) None) e

-- a name that no other equals has no place
pub no_place : (names : List (List ℕ)) (name : List ℕ) → All (λ other. ¬ (other ≡ name)) names → place_of names name ≡ None
no_place names name differ =
    not_found (pointwise nat_eq name) names
    (position_or_len_is (pointwise nat_eq name) names (length names) [] (omega arith)
    (λ k lt. other_fails name (get_or names k []) (differ k [] lt)) (λ lt. absurd (omega arith)))

-- and no other equals a name that has no place
pub none_equals : (names : List (List ℕ)) (name : List ℕ) → place_of names name ≡ None → All (λ other. ¬ (other ≡ name)) names
none_equals names name none k d lt =
    let past = none_past_end (position_or_len (pointwise nat_eq name) names) (length names) none in
    let before : k < position_or_len (pointwise nat_eq name) names = omega arith in
    λ same. other_text name (get_or names k d) (sym (fails_before_first (pointwise nat_eq name) names k d before)) (sym same)

-- a declared name has a place
pub place_of_declared : (names : List (List ℕ)) (name : List ℕ) → Contains names name → (place : ℕ) × (place_of names name ≡ Some place)
place_of_declared names name has = by (place_of names name) refl
  where
    by : (o : Option ℕ) → place_of names name ≡ o → (place : ℕ) × (place_of names name ≡ Some place)
    by None is = absurd (none_equals names name is has.0 name has.1 has.2)
    by (Some place) is = (place, is)

-- a name that has a place is declared
pub declared_at_place : (names : List (List ℕ)) (name : List ℕ) (place : ℕ) → place_of names name ≡ Some place → Contains names name
declared_at_place names name place is =
    let at = name_at_place names name place is in
    (place, at.0, get_or_default names place name [] at.0 ∙ at.1)

-- the number of a zone that has a place
pub number_at_place : (zones : List (List ℕ)) (name : List ℕ) (place : ℕ) → place_of zones name ≡ Some place → zone_number zones name ≡ place
number_at_place zones name place is = ap (λ o. unwrap_or o (length zones)) is

-- names of one place are one name
pub same_at_place : (zones : List (List ℕ)) (one other : List ℕ) (first second : ℕ) → place_of zones one ≡ Some first → place_of zones other ≡ Some second
    → first ≡ second → one ≡ other
same_at_place zones one other first second is_one is_other same =
    sym (name_at_place zones one first is_one).1 ∙ ap (λ place. get_or zones place []) same ∙ (name_at_place zones other second is_other).1

-- the values of names of which one has changed
pub one_changed : {A : Type 0} (names : List (List ℕ)) (name : List ℕ) (place : ℕ) (before after : List ℕ → A) (value : A)
    → AllPairs (λ one other. ¬ (one ≡ other)) names → place_of names name ≡ Some place → after name ≡ value
    → ((other : List ℕ) → (¬ (other ≡ name)) → after other ≡ before other)
    → map after names ≡ slice_set (map before names) place value
one_changed {A} names name place before after value differ is here there =
    let same_length : length (map after names) ≡ length (slice_set (map before names) place value) =
    length-map names after ∙ sym (length-map names before) ∙ sym (length-set (map before names) place value) in
    same_lists (map after names) (slice_set (map before names) place value) same_length
    (λ k d lt. let count = length-map names after in each k d (omega arith))
  where
    at : (place < length names) × (get_or names place [] ≡ name)
    at = name_at_place names name place is

    others : (k : ℕ) → k < length names → (¬ (k ≡ place)) → ¬ (get_or names k [] ≡ name)
    others k lt apart = λ same. by (nat_lt k place) refl same
      where
        by : (b : Bool) → nat_lt k place ≡ b → get_or names k [] ≡ name → ⊥
        by true e same = let below : k < place = grind (arith, nat_tests) in differ k place [] below at.0 (same ∙ sym at.1)
        by false e same = let above : place < k = grind (arith, nat_tests) in differ place k [] above lt (at.1 ∙ sym same)

    each : (k : ℕ) (d : A) → k < length names → get_or (map after names) k d ≡ get_or (slice_set (map before names) place value) k d
    each k d lt = by (k == place) refl
      where
        count : length (map before names) ≡ length names
        count = length-map names before

        by : (b : Bool) → (k == place) ≡ b → get_or (map after names) k d ≡ get_or (slice_set (map before names) place value) k d
        by true e =
            let same : k ≡ place = eqb-true k place e in
            get_or-map after names k [] d lt
            ∙ ap (λ n. after (get_or names n [])) same ∙ ap after at.1 ∙ here
            ∙ sym (get_or-set_same (map before names) place value d (omega (arith, count)))
            ∙ ap (λ n. get_or (slice_set (map before names) place value) n d) (sym same)
        by false e =
            let apart : ¬ (k ≡ place) = λ same. grind (arith, nat_tests) in
            get_or-map after names k [] d lt
            ∙ there (get_or names k []) (others k lt apart)
            ∙ sym (get_or-map before names k [] d lt)
            ∙ sym (get_or-set_other (map before names) place k value d apart)

-- a border that joins two zones
joined : (one other first second : ℕ) → joins_zones one other (first, second) ≡ true
    → ((first ≡ one) × (second ≡ other)) ⊎ ((first ≡ other) × (second ≡ one))
joined one other first second is = by (first == one) (second == other) (first == other) (second == one) refl refl refl refl is
  where
    by : (a b c d : Bool) → (first == one) ≡ a → (second == other) ≡ b → (first == other) ≡ c → (second == one) ≡ d
        → ((a && b) || (c && d)) ≡ true → ((first ≡ one) × (second ≡ other)) ⊎ ((first ≡ other) × (second ≡ one))
    by true true c d ea eb ec ed h = inl (eqb-true first one ea, eqb-true second other eb)
    by true false true true ea eb ec ed h = inr (eqb-true first other ec, eqb-true second one ed)
    by true false true false ea eb ec ed h = absurd cc
    by true false false d ea eb ec ed h = absurd cc
    by false b true true ea eb ec ed h = inr (eqb-true first other ec, eqb-true second one ed)
    by false b true false ea eb ec ed h = absurd cc
    by false b false d ea eb ec ed h = absurd cc

-- both zones of a border are declared
abbrev pub AreDeclared : List (List ℕ) → List ℕ × List ℕ → Type 0
AreDeclared zones names = Contains zones names.0 × Contains zones names.1 × (¬ (names.0 ≡ names.1))

-- a border of other zones joins not these
pub joins_not : (zones : List (List ℕ)) (one other : List ℕ) (first second : ℕ) (names : List ℕ × List ℕ)
    → place_of zones one ≡ Some first → place_of zones other ≡ Some second → AreDeclared zones names
    → (¬ IsSamePair names (one, other)) → joins_zones first second (numbers_of zones names) ≡ false
joins_not zones one other first second names is_one is_other declared differs =
    by (joins_zones first second (numbers_of zones names)) refl
  where
    left : (place : ℕ) × (place_of zones names.0 ≡ Some place)
    left = place_of_declared zones names.0 declared.0

    right : (place : ℕ) × (place_of zones names.1 ≡ Some place)
    right = place_of_declared zones names.1 declared.1

    same : (name wanted : List ℕ) (place at : ℕ) → place_of zones name ≡ Some place → place_of zones wanted ≡ Some at
        → zone_number zones name ≡ at → name ≡ wanted
    same name wanted place at is is_wanted equal = same_at_place zones name wanted place at is is_wanted (sym (number_at_place zones name place is) ∙ equal)

    by : (b : Bool) → joins_zones first second (numbers_of zones names) ≡ b → b ≡ false
    by false is = refl
    by true is = absurd (differs (either (joined first second (zone_number zones names.0) (zone_number zones names.1) is)))
      where
        either : ((zone_number zones names.0 ≡ first) × (zone_number zones names.1 ≡ second)) ⊎ ((zone_number zones names.0 ≡ second) × (zone_number zones names.1 ≡ first))
            → IsSamePair names (one, other)
        either (inl e) = inl (same names.0 one left.0 first left.1 is_one e.0, same names.1 other right.0 second right.1 is_other e.1)
        either (inr e) = inr (same names.0 other left.0 second left.1 is_other e.0, same names.1 one right.0 first right.1 is_one e.1)

-- a border of the same zones joins these
pub joins_same : (zones : List (List ℕ)) (one other : List ℕ) (first second : ℕ) (names : List ℕ × List ℕ)
    → place_of zones one ≡ Some first → place_of zones other ≡ Some second
    → IsSamePair names (one, other) → joins_zones first second (numbers_of zones names) ≡ true
joins_same zones one other first second names is_one is_other (inl same) =
    let a : zone_number zones names.0 ≡ first = ap (zone_number zones) same.0 ∙ number_at_place zones one first is_one in
    let b : zone_number zones names.1 ≡ second = ap (zone_number zones) same.1 ∙ number_at_place zones other second is_other in
    both a b
  where
    both : zone_number zones names.0 ≡ first → zone_number zones names.1 ≡ second → joins_zones first second (numbers_of zones names) ≡ true
    both a b = grind (arith, nat_tests)
joins_same zones one other first second names is_one is_other (inr same) =
    let a : zone_number zones names.0 ≡ second = ap (zone_number zones) same.0 ∙ number_at_place zones other second is_other in
    let b : zone_number zones names.1 ≡ first = ap (zone_number zones) same.1 ∙ number_at_place zones one first is_one in
    both a b
  where
    both : zone_number zones names.0 ≡ second → zone_number zones names.1 ≡ first → joins_zones first second (numbers_of zones names) ≡ true
    both a b = grind (arith, nat_tests)

-- no border joins two zones that no border has
pub none_joins : (zones : List (List ℕ)) (one other : List ℕ) (first second : ℕ) (borders : List (List ℕ × List ℕ))
    → place_of zones one ≡ Some first → place_of zones other ≡ Some second → All (AreDeclared zones) borders
    → All (λ names. ¬ IsSamePair names (one, other)) borders
    → list_any (joins_zones first second) (map (numbers_of zones) borders) ≡ false
none_joins zones one other first second borders is_one is_other declared differ =
    list_any_none (joins_zones first second) (map (numbers_of zones) borders)
    (All-map (λ ends. joins_zones first second ends ≡ false) (numbers_of zones) borders
    (λ k d lt. joins_not zones one other first second (get_or borders k d) is_one is_other (declared k d lt) (differ k d lt)))

-- where no border joins two zones, each border has others
pub others_joined : (zones : List (List ℕ)) (one other : List ℕ) (first second : ℕ) (borders : List (List ℕ × List ℕ))
    → place_of zones one ≡ Some first → place_of zones other ≡ Some second
    → list_any (joins_zones first second) (map (numbers_of zones) borders) ≡ false
    → All (λ names. ¬ IsSamePair names (one, other)) borders
others_joined zones one other first second borders is_one is_other none k d lt = λ same.
    let count = length-map borders (numbers_of zones) in
    let at : get_or (map (numbers_of zones) borders) k (numbers_of zones d) ≡ numbers_of zones (get_or borders k d) = get_or-map (numbers_of zones) borders k d (numbers_of zones d) lt in
    let yes = joins_same zones one other first second (get_or borders k d) is_one is_other same in
    let any = list_any_at (joins_zones first second) (map (numbers_of zones) borders) k (numbers_of zones d) (omega (arith, count)) (ap (joins_zones first second) at ∙ yes) in
    absurd (clash any)
  where
    clash : list_any (joins_zones first second) (map (numbers_of zones) borders) ≡ true → ⊥
    clash any = cc
