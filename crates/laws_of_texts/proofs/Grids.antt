-- The zones and borders of what the grammar allows make a grid.
use Rattle.std.proofs.Common.{◌≡◌, ◌∙◌, ◌<◌, ◌≤◌, ◌==◌, ◌||◌, ℕ, zero, suc, Bool, true, false, List, [], ◌∷◌, length, map, get_or, All, None, refl, sym, ap₂, subst, subst₂, arith, nat_lt}
use Rattle.std.specs.List.{AllPairs, Contains}
use Rattle.std.proofs.lemmas.Bool.{eqb-true}
use Rattle.std.proofs.lemmas.Bool.Decides.{nat_tests}
use Rattle.std.proofs.lemmas.List.{length-map, get_or-map}
use Rattle.std.proofs.lemmas.List.Elements.{All-map}
use Rattle.std.proofs.lemmas.List.Folds.{list_any_none}
use Rattle.zone_graph.specs.Graph.{Graph, border_count, zone_count}
use Rattle.zone_graph.specs.Grid.{JoinsZones, same_ends, same_name}
use Rattle.zone_graph.specs.GridFault.{grid_fault, has_again, has_self_border}
use Rattle.market_model.specs.Grid.{graph_of}
use Rattle.market_text.specs.declared.session.Session.{Session}
use Rattle.command_lines.specs.Names.{zone_number}
use Rattle.market_text.specs.Steps.{joins_zones}
use Rattle.laws_of_texts.specs.Contents.{Contents, IsAllowed, IsSamePair, numbers_of, session_of_contents}
use Rattle.laws_of_texts.specs.Laws.{SessionsMakeGrids}
use Rattle.laws_of_texts.proofs.Places.{AreDeclared, joins_not, name_at_place, number_at_place, other_fails, place_of_declared, same_at_place}
use Rattle.laws_of_texts.proofs.Texts.{accepted-in-grammar}

-- ---- items that stand once

-- where no item is the same as one behind it, none stands again
none_again : {X : Type 0} (same : X → X → Bool) (xs : List X) → AllPairs (λ one other. same one other ≡ false) xs → has_again same xs ≡ false
none_again same [] apart = refl
none_again same (x ∷ xs) apart =
    ap₂ (λ here later. here || later)
    (list_any_none (same x) xs (λ k d lt. apart zero (suc k) d (omega arith) (omega arith)))
    (none_again same xs (λ i j d less within. apart (suc i) (suc j) d (omega arith) (omega arith)))

-- what holds of each two items holds of their images
pairs_of_images : {X Y : Type 0} (R : Y → Y → Type 0) (f : X → Y) (xs : List X) (e : X) → AllPairs (λ one other. R (f one) (f other)) xs → AllPairs R (map f xs)
pairs_of_images R f xs e apart i j d less within =
    let count = length-map xs f in
    let second : j < length xs = omega arith in
    let first : i < length xs = omega arith in
    subst₂ R (sym (get_or-map f xs i e d first)) (sym (get_or-map f xs j e d second)) (apart i j e less second)

-- ---- the numbers of declared zones

-- the number of a declared zone is one of a zone
pub number_within : (zones : List (List ℕ)) (name : List ℕ) → Contains zones name → zone_number zones name < length zones
number_within zones name declared =
    let found = place_of_declared zones name declared in
    let within = (name_at_place zones name found.0 found.1).0 in
    let is = number_at_place zones name found.0 found.1 in
    omega arith

-- two declared zones of one number have one name
same_number : (zones : List (List ℕ)) (one other : List ℕ) → Contains zones one → Contains zones other → zone_number zones one ≡ zone_number zones other → one ≡ other
same_number zones one other first second same =
    let left = place_of_declared zones one first in
    let right = place_of_declared zones other second in
    same_at_place zones one other left.0 right.0 left.1 right.1
    (sym (number_at_place zones one left.0 left.1) ∙ same ∙ number_at_place zones other right.0 right.1)

-- a border of two zones is none of a zone with itself
ends_apart : (zones : List (List ℕ)) (names : List ℕ × List ℕ) → AreDeclared zones names
    → ((numbers_of zones names).0 == (numbers_of zones names).1) ≡ false
ends_apart zones names declared = by (zone_number zones names.0 == zone_number zones names.1) refl
  where
    by : (b : Bool) → (zone_number zones names.0 == zone_number zones names.1) ≡ b → b ≡ false
    by false is = refl
    by true is = absurd (declared.2 (same_number zones names.0 names.1 declared.0 declared.1 (eqb-true (zone_number zones names.0) (zone_number zones names.1) is)))

-- borders of other zones have other ends
borders_apart : (zones : List (List ℕ)) (one other : List ℕ × List ℕ) → AreDeclared zones one → AreDeclared zones other
    → (¬ IsSamePair one other) → same_ends (numbers_of zones one) (numbers_of zones other) ≡ false
borders_apart zones one other first second differ =
    let left = place_of_declared zones other.0 second.0 in
    let right = place_of_declared zones other.1 second.1 in
    ap₂ (λ from to. joins_zones from to (numbers_of zones one)) (number_at_place zones other.0 left.0 left.1) (number_at_place zones other.1 right.0 right.1)
    ∙ joins_not zones other.0 other.1 left.0 right.0 one left.1 right.1 first differ

-- ---- the graph

-- the graph of zones and of the borders between them
abbrev pub graph_of_names : List (List ℕ) → List (List ℕ × List ℕ) → Graph
graph_of_names zones borders = record { zones = zones; borders = map (numbers_of zones) borders }

-- its borders join zones of it
names_join_zones : (zones : List (List ℕ)) (borders : List (List ℕ × List ℕ)) → All (AreDeclared zones) borders → JoinsZones (graph_of_names zones borders)
names_join_zones zones borders declared border within =
    let count = length-map borders (numbers_of zones) in
    let known : border < length borders = omega arith in
    let names = declared border ([], []) known in
    subst (λ (ends : ℕ × ℕ). (ends.0 < length zones) × (ends.1 < length zones))
    (sym (get_or-map (numbers_of zones) borders border ([], []) (0, 0) known))
    (number_within zones (get_or borders border ([], [])).0 names.0, number_within zones (get_or borders border ([], [])).1 names.1)

-- what passes each test has no fault
no_fault : (graph : Graph) → zone_count graph ≤ 64 → has_again same_name graph.zones ≡ false → border_count graph ≤ 128
    → has_self_border graph.borders ≡ false → has_again same_ends graph.borders ≡ false → grid_fault graph ≡ None
no_fault graph few_zones names few_borders loops pairs =
    let zones : nat_lt 64 (zone_count graph) ≡ false = grind (arith, nat_tests) in
    let borders : nat_lt 128 (border_count graph) ≡ false = grind (arith, nat_tests) in
    rw (zones, names, borders, loops, pairs) refl

-- so it is with what the grammar allows
grid_of_contents : (contents : Contents) → IsAllowed contents
    → JoinsZones (graph_of_names contents.zones contents.borders) × (grid_fault (graph_of_names contents.zones contents.borders) ≡ None)
grid_of_contents contents allowed = (
  names_join_zones contents.zones contents.borders allowed.zones_joined,
  no_fault (graph_of_names contents.zones contents.borders) allowed.few_zones
      (none_again same_name contents.zones (λ i j d less within.
      other_fails (get_or contents.zones i d) (get_or contents.zones j d) (λ same. allowed.zones_differ i j d less within (sym same))))
      few_borders
      (list_any_none (λ (ends : ℕ × ℕ). ends.0 == ends.1) (map (numbers_of contents.zones) contents.borders)
      (All-map (λ (ends : ℕ × ℕ). (ends.0 == ends.1) ≡ false) (numbers_of contents.zones) contents.borders
      (λ k d lt. ends_apart contents.zones (get_or contents.borders k d) (allowed.zones_joined k d lt))))
      (none_again same_ends (map (numbers_of contents.zones) contents.borders)
      (pairs_of_images (λ one other. same_ends one other ≡ false) (numbers_of contents.zones) contents.borders ([], [])
      (λ i j d less within.
      borders_apart contents.zones (get_or contents.borders i d) (get_or contents.borders j d)
      (allowed.zones_joined i d (omega arith)) (allowed.zones_joined j d within) (allowed.borders_differ i j d less within)))),
)
  where
    few_borders : length (map (numbers_of contents.zones) contents.borders) ≤ 128
    few_borders =
        let count = length-map contents.borders (numbers_of contents.zones) in
        let few = allowed.few_borders in
        omega arith

-- and with the session for which it stands
grid_of_session : (contents : Contents) → IsAllowed contents
    → JoinsZones (graph_of (session_of_contents contents).setup) × (grid_fault (graph_of (session_of_contents contents).setup) ≡ None)
unfolding session_of_contents
grid_of_session contents allowed = grid_of_contents contents allowed

-- the zones and borders of a session that is read make a grid
pub sessions-make-grids : SessionsMakeGrids
sessions-make-grids bytes session ok =
    let text = accepted-in-grammar bytes session ok in
    subst (λ (read : Session). JoinsZones (graph_of read.setup) × (grid_fault (graph_of read.setup) ≡ None)) (sym text.stands_for)
    (grid_of_session text.contents text.allowed)
