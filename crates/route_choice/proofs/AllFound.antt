-- A search that has found all zones of its grid has their distances, whichever it has visited.
use Rattle.std.proofs.Common.{◌≡◌, ◌∙◌, ◌+◌, ◌-◌, ◌<◌, ◌≤◌, ◌⊎◌, inl, inr, ℕ, zero, suc, List, length, get_or, set, Option, Some, None, refl, sym, ap, subst, arith, get_or-set_other}
use Rattle.std.proofs.lemmas.Bool.{cases_lt}
use Rattle.std.proofs.lemmas.List.{length-set}
use Rattle.zone_graph.specs.declared.route.Arc.{Arc}
use Rattle.zone_graph.specs.Graph.{Graph, HasArc, HasZone, IsGraph, end_of, start_of, zone_count}
use Rattle.zone_graph.specs.Grid.{IsGrid}
use Rattle.zone_graph.specs.Pour.{opposite_arc}
use Rattle.zone_graph.proofs.Arcs.{opposite-end}
use Rattle.zone_graph.proofs.Routes.{end_within}
use Rattle.cut_proof.specs.Distance.{AreDistances, arcs_of_distance, distance_at}
use Rattle.cut_proof.proofs.Searches.{IsReady, IsSearching, ended, free_places, free_places-found}

-- places without a distance are free
many_free : (many first : ℕ) (distances : List (Option ℕ)) → first + many ≤ length distances
    → ((zone : ℕ) → first ≤ zone → zone < first + many → get_or distances zone None ≡ None) → many ≤ free_places distances
many_free zero first distances within none = omega arith
many_free (suc many) first distances within none =
    let one = free_places-found distances first 0 (omega (arith, within)) (none first (omega arith) (omega arith)) in
    let rest = many_free many (first + 1) (set distances first (Some 0)) (omega (arith, within, length-set distances first (Some 0)))
    (λ zone least most.
    get_or-set_other distances first zone (Some 0) None (λ e. omega (arith, least, e)) ∙ none zone (omega (arith, least)) (omega (arith, most))) in
    omega (arith, one, rest)

module _ (graph : Graph) (room : Arc → ℕ) (to : ℕ) (distances : List (Option ℕ)) (zones : List ℕ) (count : ℕ) (s : IsSearching graph room to distances zones count) where
  -- only zones have distances
  beyond_none : (place : ℕ) → zone_count graph ≤ place → get_or distances place None ≡ None
  beyond_none place beyond = by (get_or distances place None) refl
    where
      by : (o : Option ℕ) → get_or distances place None ≡ o → o ≡ None
      by None e = refl
      by (Some far) e =
          let near : distance_at distances place ≡ far = ap arcs_of_distance e in
          let at = s.listed place (omega (arith, near, s.few place far e)) in
          let there = s.there at.0 at.1 in
          absurd (omega (arith, there, at.2, beyond))

  -- each zone has one
  all_near : zone_count graph ≤ 64 → zone_count graph ≤ count → (zone : ℕ) → HasZone graph zone → distance_at distances zone < 128
  all_near few all zone there = by (get_or distances zone None) refl
    where
      by : (o : Option ℕ) → get_or distances zone None ≡ o → distance_at distances zone < 128
      by (Some far) e = let near : distance_at distances zone ≡ far = ap arcs_of_distance e in omega (arith, near, s.few zone far e)
      by None e =
          let place : zone < length distances = omega (arith, there, few, s.places) in
          let one = free_places-found distances zone 0 place e in
          let rest = many_free (64 - zone_count graph) (zone_count graph) (set distances zone (Some 0)) (omega (arith, few, length-set distances zone (Some 0), s.places))
          (λ other least most. get_or-set_other distances zone other (Some 0) None (λ same. omega (arith, same, least, there)) ∙ beyond_none other least) in
          absurd (omega (arith, one, rest, s.free, all, few))

-- so the distances of all zones are known
all_found : (graph : Graph) (room : Arc → ℕ) (to : ℕ) (distances : List (Option ℕ)) (zones : List ℕ) (count next : ℕ) → IsGraph graph → zone_count graph ≤ 64
    → IsReady graph room to distances zones count next → zone_count graph ≤ count → AreDistances graph room to distances
all_found graph room to distances zones count next is few r all = record {
  places = r.searching.places;
  home = r.searching.home;
  alone = r.searching.alone;
  short = r.searching.few;
  falls = λ arc known some.
      let end = r.searching.listed (end_of graph arc) (all_near graph room to distances zones count r.searching few all (end_of graph arc) (end_within graph arc is known)) in
      let start = r.searching.listed (start_of graph arc) (all_near graph room to distances zones count r.searching few all (start_of graph arc)
      (subst (HasZone graph) (opposite-end graph arc) (end_within graph (opposite_arc arc) is known))) in
      in_falls arc known some end.0 end.1 end.2 start.0 start.1 start.2 (cases_lt end.0 next);
  nearer = r.searching.nearer;
}
  where
    in_falls : (arc : Arc) → HasArc graph arc → 0 < room arc → (i : ℕ) → i < count → get_or zones i 0 ≡ end_of graph arc
        → (j : ℕ) → j < count → get_or zones j 0 ≡ start_of graph arc → (i < next) ⊎ (next ≤ i)
        → distance_at distances (start_of graph arc) ≤ distance_at distances (end_of graph arc) + 1
    in_falls arc known some i within end j within_too start (inl less) =
        let passed = r.passed i less arc known some (sym end) in
        omega (arith, passed, ap (distance_at distances) end)
    in_falls arc known some i within end j within_too start (inr least) =
        let close = r.close (omega (arith, within, least)) j within_too in
        let sorted = r.searching.sorted next i least within in
        omega (arith, close, sorted, ap (distance_at distances) end, ap (distance_at distances) start)

-- a search has the distances once it has visited all zones that it has found, or has found all zones
pub search_done : (graph : Graph) (room : Arc → ℕ) (to : ℕ) (distances : List (Option ℕ)) (zones : List ℕ) (count next : ℕ) → IsGrid graph
    → IsReady graph room to distances zones count next → (count ≤ next) ⊎ (zone_count graph ≤ count) → AreDistances graph room to distances
search_done graph room to distances zones count next grid r (inl past) = ended graph room to distances zones count next r past
search_done graph room to distances zones count next grid r (inr all) = all_found graph room to distances zones count next grid.is_graph grid.few_zones r all
