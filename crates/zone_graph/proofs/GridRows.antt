-- The neighbours of a zone, border by border.
use Rattle.std.proofs.Common.{◌≡◌, ◌∙◌, ◌+◌, ◌==◌, ℕ, Bool, true, false, cond, List, [], ◌∷◌, ◌++◌, map, filter, flat_map, refl, sym, ap, arith, map-id, append-nil}
use Rattle.std.specs.List.{range_with_len}
use Rattle.std.proofs.lemmas.Grind.{flat_map-append}
use Rattle.std.proofs.lemmas.List.{map-append}
use Rattle.std.proofs.lemmas.List.Elements.{filter-append}
use Rattle.std.proofs.lemmas.List.FromFn.{map-range_with_len_more}
use Rattle.zone_graph.specs.declared.grid.Neighbour.{Neighbour}
use Rattle.zone_graph.specs.Graph.{Graph, arcs_over, ends_of, start_of}
use Rattle.zone_graph.specs.Grid.{neighbour_over}
use Rattle.zone_graph.specs.GridIndex.{neighbours_over}

-- the neighbours of a zone over so many first borders
abbrev pub first_neighbours : Graph → (zone count : ℕ) → List Neighbour
first_neighbours graph zone count =
    map (neighbour_over graph) (filter (λ arc. start_of graph arc == zone) (flat_map arcs_over (range_with_len 0 count)))

range_more : (n : ℕ) → range_with_len 0 (n + 1) ≡ range_with_len 0 n ++ n ∷ []
range_more n =
    sym (map-id (range_with_len 0 (n + 1)))
    ∙ map-range_with_len_more (λ k. k) 0 n n (omega arith)
    ∙ ap (λ ks. ks ++ n ∷ []) (map-id (range_with_len 0 n))

over_one : (graph : Graph) (zone border : ℕ)
    → map (neighbour_over graph) (filter (λ arc. start_of graph arc == zone) (arcs_over border)) ≡ neighbours_over zone border (ends_of graph border)
over_one graph zone border =
    by ((ends_of graph border).0 == zone) ((ends_of graph border).1 == zone)
  where
    by : (b c : Bool) → map (neighbour_over graph) (cond b (record { border = border; forward = true } ∷ cond c (record { border = border; forward = false } ∷ []) []) (cond c (record { border = border; forward = false } ∷ []) []))
        ≡ cond b (record { arc = record { border = border; forward = true }; zone = (ends_of graph border).1 } ∷ []) []
        ++ cond c (record { arc = record { border = border; forward = false }; zone = (ends_of graph border).0 } ∷ []) []
    by true true = refl
    by true false = refl
    by false true = refl
    by false false = refl

-- one border more
pub first_neighbours_more : (graph : Graph) (zone border : ℕ)
    → first_neighbours graph zone (border + 1) ≡ first_neighbours graph zone border ++ neighbours_over zone border (ends_of graph border)
first_neighbours_more graph zone border =
    ap (λ ks. map (neighbour_over graph) (filter (λ arc. start_of graph arc == zone) (flat_map arcs_over ks))) (range_more border)
    ∙ ap (λ arcs. map (neighbour_over graph) (filter (λ arc. start_of graph arc == zone) arcs))
    (flat_map-append arcs_over (range_with_len 0 border) (border ∷ []) ∙ ap (λ arcs. flat_map arcs_over (range_with_len 0 border) ++ arcs) (append-nil (arcs_over border)))
    ∙ ap (map (neighbour_over graph)) (filter-append (λ arc. start_of graph arc == zone) (flat_map arcs_over (range_with_len 0 border)) (arcs_over border))
    ∙ map-append (neighbour_over graph) (filter (λ arc. start_of graph arc == zone) (flat_map arcs_over (range_with_len 0 border))) (filter (λ arc. start_of graph arc == zone) (arcs_over border))
    ∙ ap (λ row. first_neighbours graph zone border ++ row) (over_one graph zone border)
