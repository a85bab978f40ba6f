-- A zone has a distance exactly where a route leads from it to the zone that distances are counted
-- to, and those counted with the arcs turned round where one leads back.
use Rattle.std.proofs.Common.{◌≡◌, ◌∙◌, ◌+◌, ◌<◌, ℕ, zero, suc, Bool, true, false, List, [], ◌∷◌, ◌++◌, filter, cond, get_or, length, Option, Some, None, is_some, slice_index_or, refl, sym, ap, subst, arith, length-append}
use Rattle.std.proofs.lemmas.Bool.{true≢false}
use Rattle.std.proofs.lemmas.List.Elements.{filter-append}
use Rattle.std.specs.List.{All, range_with_len}
use Rattle.zone_graph.specs.declared.route.Arc.{Arc}
use Rattle.zone_graph.specs.Graph.{Graph, HasZone, IsGraph, end_of, zone_count}
use Rattle.zone_graph.specs.Pour.{opposite_arc}
use Rattle.zone_graph.specs.Reach.{reaches}
use Rattle.zone_graph.specs.Route.{IsWay}
use Rattle.zone_graph.proofs.Membership.{from_filter, from_range}
use Rattle.zone_graph.proofs.Arcs.{opposite-start, opposite-end, opposite-twice}
use Rattle.zone_graph.proofs.Places.{at_place}
use Rattle.cut_proof.specs.Distance.{AreDistances, arcs_of_distance, directed_room, distance_at}
use Rattle.cut_proof.proofs.Nearest.{way_reached}
use Rattle.cut_proof.specs.Cut.{reached_zones, reaches_in}
use Rattle.cut_proof.proofs.ArcSums.{range_more}
use Rattle.cut_proof.proofs.ReachLaws.{reaches-way, way-reaches}
use Rattle.cut_proof.proofs.Ways.{way_longer}

-- ---- ways back

-- where each arc with room has an opposite with room, each way has one back that is as long
pub way_turned : (graph : Graph) (room other : Arc → ℕ) (from to : ℕ) (arcs : List Arc) → ((arc : Arc) → 0 < room arc → 0 < other (opposite_arc arc))
    → IsWay graph room from arcs to → (back : List Arc) × IsWay graph other to back from × (length back ≡ length arcs)
way_turned graph room other from to [] some way = ([], sym way, refl)
way_turned graph room other from to (arc ∷ arcs) some way =
    let back = way_turned graph room other (end_of graph arc) to arcs some way.3 in (
      back.0 ++ opposite_arc arc ∷ [],
      subst (IsWay graph other to (back.0 ++ opposite_arc arc ∷ [])) (opposite-end graph arc ∙ way.1)
          (way_longer graph other to (end_of graph arc) back.0 (opposite_arc arc) back.1 way.0 (opposite-start graph arc) (some arc way.2)),
      omega (arith, back.2, length-append back.0 (opposite_arc arc ∷ [])),
    )

-- ways by the rooms in a direction
way_in : (graph : Graph) (room : Arc → ℕ) (from to : ℕ) (towards : Bool) (arcs : List Arc) → IsGraph graph
    → IsWay graph (directed_room room towards) from arcs to → reaches_in graph room from to towards ≡ true
way_in graph room from to true arcs is way = reaches-way graph room from to arcs is way
way_in graph room from to false arcs is way =
    let back = way_turned graph (λ arc. room (opposite_arc arc)) room from to arcs (λ arc some. some) way in
    reaches-way graph room to from back.0 is back.1

in_way : (graph : Graph) (room : Arc → ℕ) (from to : ℕ) (towards : Bool) → IsGraph graph → reaches_in graph room from to towards ≡ true
    → (arcs : List Arc) × IsWay graph (directed_room room towards) from arcs to
in_way graph room from to true is there = way-reaches graph room from to is there
in_way graph room from to false is there =
    let way = way-reaches graph room to from is there in
    let back = way_turned graph room (λ arc. room (opposite_arc arc)) to from way.0 (λ arc some. subst (λ a. 0 < room a) (sym (opposite-twice arc)) some) way.1 in
    (back.0, back.1)

-- ---- distances

-- a zone that has a distance has a way of so many arcs
pub way_of_distance : (graph : Graph) (room : Arc → ℕ) (to : ℕ) (distances : List (Option ℕ)) (from far : ℕ) → AreDistances graph room to distances
    → distance_at distances from ≡ far → far < 128 → (arcs : List Arc) × IsWay graph room from arcs to × (length arcs ≡ far)
way_of_distance graph room to distances from zero a e near = ([], a.alone from e, refl)
way_of_distance graph room to distances from (suc far) a e near =
    let step = a.nearer from (omega (arith, e)) (omega (arith, e, near)) in
    let rest = way_of_distance graph room to distances (end_of graph step.0) far a (omega (arith, e, step.4)) (omega (arith, near)) in
    (step.0 ∷ rest.0, (step.1, step.2, step.3, rest.1), omega (arith, rest.2))

-- it has a distance exactly where it reaches
pub distance_tells : (graph : Graph) (room : Arc → ℕ) (zone : ℕ) (towards : Bool) (distances : List (Option ℕ)) (other : ℕ) → IsGraph graph
    → AreDistances graph (directed_room room towards) zone distances
    → is_some (slice_index_or distances other None) ≡ reaches_in graph room other zone towards
distance_tells graph room zone towards distances other is a = by (slice_index_or distances other None) refl (reaches_in graph room other zone towards) refl
  where
    by : (o : Option ℕ) → slice_index_or distances other None ≡ o → (b : Bool) → reaches_in graph room other zone towards ≡ b → is_some o ≡ b
    by None e false r = refl
    by (Some far) e true r = refl
    by None e true r =
        let way = in_way graph room other zone towards is r in
        let near = way_reached graph (directed_room room towards) zone distances other way.0 a way.1 in
        let far = ap arcs_of_distance e in
        absurd (omega (arith, near, far))
    by (Some far) e false r =
        let there = ap arcs_of_distance e in
        let way = way_of_distance graph (directed_room room towards) zone distances other far a there (let short = a.short other far e in omega (arith, short)) in
        absurd (true≢false (sym (way_in graph room other zone towards way.0 is way.1) ∙ r))

-- ---- the zones that have a distance

abbrev pub has_distance : List (Option ℕ) → ℕ → Bool
has_distance distances zone = is_some (slice_index_or distances zone None)

filter_alike : (p q : ℕ → Bool) (xs : List ℕ) → ((x : ℕ) → p x ≡ q x) → filter p xs ≡ filter q xs
filter_alike p q [] alike = refl
filter_alike p q (x ∷ xs) alike =
    ap (λ b. cond b (x ∷ filter p xs) (filter p xs)) (alike x) ∙ ap (λ ys. cond (q x) (x ∷ ys) ys) (filter_alike p q xs alike)

pub distances_tell : (graph : Graph) (room : Arc → ℕ) (zone : ℕ) (towards : Bool) (distances : List (Option ℕ)) → IsGraph graph
    → AreDistances graph (directed_room room towards) zone distances
    → filter (has_distance distances) (range_with_len 0 (zone_count graph)) ≡ reached_zones graph room zone towards
distances_tell graph room zone true distances is a =
    filter_alike (has_distance distances) (λ other. reaches graph room other zone) (range_with_len 0 (zone_count graph)) (λ other. distance_tells graph room zone true distances other is a)
distances_tell graph room zone false distances is a =
    filter_alike (has_distance distances) (λ other. reaches graph room zone other) (range_with_len 0 (zone_count graph)) (λ other. distance_tells graph room zone false distances other is a)

-- one zone more
zones_more : (p : ℕ → Bool) (zone : ℕ) → filter p (range_with_len 0 (zone + 1)) ≡ filter p (range_with_len 0 zone) ++ cond (p zone) (zone ∷ []) []
zones_more p zone =
    ap (λ n. filter p (range_with_len 0 n)) next ∙ ap (filter p) (range_more 0 zone)
    ∙ ap (λ n. filter p (range_with_len 0 zone ++ n ∷ [])) plain ∙ filter-append p (range_with_len 0 zone) (zone ∷ [])
  where
    next : zone + 1 ≡ suc zone
    next = omega arith

    plain : 0 + zone ≡ zone
    plain = omega arith

pub zone_passes : (p : ℕ → Bool) (zone : ℕ) (zones : List ℕ) → zones ≡ filter p (range_with_len 0 zone) → p zone ≡ true
    → zones ++ zone ∷ [] ≡ filter p (range_with_len 0 (zone + 1))
zone_passes p zone zones e t =
    ap (λ zs. zs ++ zone ∷ []) e ∙ sym (zones_more p zone ∙ ap (λ b. filter p (range_with_len 0 zone) ++ cond b (zone ∷ []) []) t)

pub zone_fails : (p : ℕ → Bool) (zone : ℕ) (zones : List ℕ) → zones ≡ filter p (range_with_len 0 zone) → p zone ≡ false
    → zones ≡ filter p (range_with_len 0 (zone + 1))
zone_fails p zone zones e t =
    e ∙ sym (zones_more p zone ∙ ap (λ b. filter p (range_with_len 0 zone) ++ cond b (zone ∷ []) []) t ∙ append_nil (filter p (range_with_len 0 zone)))
  where
    append_nil : (xs : List ℕ) → xs ++ [] ≡ xs
    append_nil [] = refl
    append_nil (x ∷ xs) = ap (λ ys. x ∷ ys) (append_nil xs)

-- the zones that pass a test are the graph's
pub passing_within : (graph : Graph) (p : ℕ → Bool) → All (HasZone graph) (filter p (range_with_len 0 (zone_count graph)))
passing_within graph p k d less =
    let zones = filter p (range_with_len 0 (zone_count graph)) in
    let there = from_filter p (get_or zones k d) (range_with_len 0 (zone_count graph)) (at_place zones k d less) in
    omega (arith, (from_range (get_or zones k d) 0 (zone_count graph) there.0).1)
