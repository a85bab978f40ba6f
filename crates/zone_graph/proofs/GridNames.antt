-- The zones by name, one zone after another.
use Rattle.std.proofs.Common.{◌≡◌, ◌∙◌, ◌+◌, ◌<◌, ◌||◌, ℕ, Bool, true, false, cond, List, [], ◌∷◌, ◌++◌, length, get_or, take, drop, Option, Some, None, is_some, option_copied, position, refl, sym, ap, arith, true≢false, take-append-drop, length-take, Bor}
use Rattle.std.specs.List.{list_any}
use Rattle.std.specs.Map.{lookup}
use Rattle.std.specs.Cmp.Lexicographic.{same_text}
use Rattle.std.proofs.lemmas.List.{take_more}
use Rattle.zone_graph.specs.Grid.{same_name}
use Rattle.zone_graph.specs.GridFault.{has_again}
use Rattle.zone_graph.proofs.Again.{has_again-front, has_again-push, list_any-no_position, list_any-position, or-true, position-push_first, position-push_other}
use Rattle.zone_graph.proofs.GridLemmas.{same_name-symm}
use Rattle.zone_graph.proofs.Finding.{none_from}

-- whether a reference was found says whether a value was
pub is_some-copied : (found : Option (Bor ℕ)) (value : Option ℕ) (b : Bool) → is_some found ≡ b → option_copied found ≡ value → is_some value ≡ b
is_some-copied None value b e f = sym (ap is_some f) ∙ e
is_some-copied (Some x) value b e f = sym (ap is_some f) ∙ e

module _ (names : List (List ℕ)) (zone : ℕ) (name : List ℕ) (within : zone < length names) (named : name ≡ get_or names zone name) where
  one_more : take (zone + 1) names ≡ take zone names ++ name ∷ []
  one_more = take_more names zone name within ∙ ap (λ x. take zone names ++ x ∷ []) (sym named)

  more_again : has_again same_name (take (zone + 1) names) ≡ (has_again same_name (take zone names) || list_any (same_name name) (take zone names))
  more_again = ap (has_again same_name) one_more ∙ has_again-push same_name same_name-symm (take zone names) name

  -- a name that an earlier zone has stands again
  pub found_again : is_some (position (same_name name) (take zone names)) ≡ true → has_again same_name names ≡ true
  found_again found = by (position (same_name name) (take zone names)) refl found
    where
      by : (o : Option ℕ) → position (same_name name) (take zone names) ≡ o → is_some o ≡ true → has_again same_name names ≡ true
      by None e f = absurd (true≢false (sym f))
      by (Some place) e f =
          ap (has_again same_name) (sym (take-append-drop (zone + 1) names))
          ∙ has_again-front same_name (take (zone + 1) names) (drop (zone + 1) names)
          (more_again ∙ ap (λ b. has_again same_name (take zone names) || b) (list_any-position (same_name name) (take zone names) place e)
          ∙ or-true (has_again same_name (take zone names)))

  -- a name that no earlier zone has stands once so far
  pub different_more : has_again same_name (take zone names) ≡ false → is_some (position (same_name name) (take zone names)) ≡ false
      → has_again same_name (take (zone + 1) names) ≡ false
  different_more before absent =
      more_again ∙ ap (λ b. b || list_any (same_name name) (take zone names)) before
      ∙ list_any-no_position (same_name name) (take zone names) (none_from (position (same_name name) (take zone names)) absent)

  -- and its number goes to the others
  pub numbered_more : (old new : List (List ℕ × ℕ)) → ((q : List ℕ) → lookup (same_name q) old ≡ position (same_name q) (take zone names))
      → is_some (position (same_name name) (take zone names)) ≡ false
      → ((q : List ℕ) → lookup (same_name q) new ≡ cond (same_name name q) (Some zone) (lookup (same_name q) old))
      → (q : List ℕ) → lookup (same_name q) new ≡ position (same_name q) (take (zone + 1) names)
  numbered_more old new before absent updated q =
      updated q ∙ by (same_name name q) refl ∙ ap (position (same_name q)) (sym one_more)
    where
      by : (b : Bool) → same_name name q ≡ b → cond b (Some zone) (lookup (same_name q) old) ≡ position (same_name q) (take zone names ++ name ∷ [])
      by true e =
          let none = none_from (position (same_name name) (take zone names)) absent in
          let len : length (take zone names) ≡ zone = omega (arith, length-take zone names) in
          sym (position-push_first (same_name q) (take zone names) name
          (ap (λ n. position (same_name n) (take zone names)) (sym (same_text name q (sym e))) ∙ none)
          (same_name-symm q name ∙ e) ∙ ap Some len)
      by false e = before q ∙ sym (position-push_other (same_name q) (take zone names) name (same_name-symm q name ∙ e))
