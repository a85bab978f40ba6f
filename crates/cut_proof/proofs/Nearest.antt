-- A way that takes, at each zone, the arc of the least border over which the distance falls is the
-- best route.
use Rattle.std.proofs.Common.{◌≡◌, ◌∙◌, ◌+◌, ◌<◌, ◌≤◌, ◌⊎◌, inl, inr, ℕ, false, List, [], ◌∷◌, length, map, Option, Some, None, slice_index_or, refl, sym, ap, subst, arith}
use Rattle.std.specs.Cmp.Lexicographic.{slice_cmp}
use Rattle.std.specs.Cmp.{nat_cmp_is}
use Rattle.std.specs.Ordering.{is_gt, nat_cmp, ordering_then}
use Rattle.std.specs.declared.cmp.Ordering.{Ordering}
use Rattle.std.proofs.lemmas.Bool.{cases_lt}
use Rattle.zone_graph.specs.declared.route.Arc.{Arc}
use Rattle.zone_graph.specs.Graph.{Graph, IsGraph, end_of}
use Rattle.zone_graph.specs.Route.{AreDifferent, IsIn, IsWay, best_route, zones_on}
use Rattle.zone_graph.proofs.BestRoute.{best_route-no_route, best_route-unique, same_arc}
use Rattle.cut_proof.specs.Distance.{AreDistances, IsDescent, arcs_of_distance, distance_at}

-- a way takes at least as many arcs as the distance says
pub way_long : (graph : Graph) (room : Arc → ℕ) (to : ℕ) (distances : List (Option ℕ)) (from : ℕ) (arcs : List Arc)
    → AreDistances graph room to distances → IsWay graph room from arcs to → distance_at distances from ≤ length arcs
way_long graph room to distances from [] a way = let equal = ap (distance_at distances) way in omega (arith, equal, a.home)
way_long graph room to distances from (arc ∷ arcs) a way =
    let rest = way_long graph room to distances (end_of graph arc) arcs a way.3 in
    let equal = ap (distance_at distances) way.1 in
    omega (arith, rest, equal, a.falls arc way.0 way.2)

-- a zone from which a way leads there has a distance
pub way_reached : (graph : Graph) (room : Arc → ℕ) (to : ℕ) (distances : List (Option ℕ)) (from : ℕ) (arcs : List Arc)
    → AreDistances graph room to distances → IsWay graph room from arcs to → distance_at distances from < 128
way_reached graph room to distances from [] a way = let equal = ap (distance_at distances) way in omega (arith, equal, a.home)
way_reached graph room to distances from (arc ∷ arcs) a way =
    let equal = ap (distance_at distances) way.1 in
    by (slice_index_or distances (end_of graph arc) None) refl (way_reached graph room to distances (end_of graph arc) arcs a way.3)
    (subst (λ z. distance_at distances z ≤ distance_at distances (end_of graph arc) + 1) way.1 (a.falls arc way.0 way.2))
  where
    by : (o : Option ℕ) → slice_index_or distances (end_of graph arc) None ≡ o → distance_at distances (end_of graph arc) < 128
        → distance_at distances from ≤ distance_at distances (end_of graph arc) + 1 → distance_at distances from < 128
    by None e near falls = let equal = ap arcs_of_distance e in absurd (omega (arith, equal, near))
    by (Some far) e near falls = let equal = ap arcs_of_distance e in omega (arith, equal, falls, a.short (end_of graph arc) far e)

-- where a zone has no distance there is no route
pub no_route : (graph : Graph) (room : Arc → ℕ) (from to : ℕ) (distances : List (Option ℕ)) → IsGraph graph
    → AreDistances graph room to distances → slice_index_or distances from None ≡ None → best_route graph room from to ≡ None
no_route graph room from to distances is a none =
    best_route-no_route graph room from to is (λ arcs r.
    let near = way_reached graph room to distances from arcs a r.way in
    let far = ap arcs_of_distance none in omega (arith, near, far))

-- ---- a descent

descent_way : (graph : Graph) (room : Arc → ℕ) (to : ℕ) (distances : List (Option ℕ)) (from : ℕ) (arcs : List Arc)
    → AreDistances graph room to distances → IsDescent graph room distances from arcs → IsWay graph room from arcs to
descent_way graph room to distances from [] a d = a.alone from d
descent_way graph room to distances from (arc ∷ arcs) a d =
    (d.0.known, d.0.start, d.0.has_room, descent_way graph room to distances (end_of graph arc) arcs a d.1)

descent_length : (graph : Graph) (room : Arc → ℕ) (distances : List (Option ℕ)) (from : ℕ) (arcs : List Arc)
    → IsDescent graph room distances from arcs → length arcs ≡ distance_at distances from
descent_length graph room distances from [] d = sym d
descent_length graph room distances from (arc ∷ arcs) d = omega (arith, descent_length graph room distances (end_of graph arc) arcs d.1, d.0.falls)

-- all zones after the first are nearer
descent_falls : (graph : Graph) (room : Arc → ℕ) (distances : List (Option ℕ)) (from : ℕ) (arcs : List Arc)
    → IsDescent graph room distances from arcs → (zone : ℕ) → IsIn zone (map (end_of graph) arcs) → distance_at distances zone < distance_at distances from
descent_falls graph room distances from [] d zone h = absurd h
descent_falls graph room distances from (arc ∷ arcs) d zone h = elim h [
  | inl e ↦ let equal = ap (distance_at distances) e in omega (arith, equal, d.0.falls)
  | inr i ↦ omega (arith, descent_falls graph room distances (end_of graph arc) arcs d.1 zone i, d.0.falls)
]

descent_simple : (graph : Graph) (room : Arc → ℕ) (distances : List (Option ℕ)) (from : ℕ) (arcs : List Arc)
    → IsDescent graph room distances from arcs → AreDifferent (zones_on graph from arcs)
descent_simple graph room distances from [] d = (λ h. h, tt)
descent_simple graph room distances from (arc ∷ arcs) d = (
  λ h. let less = descent_falls graph room distances from (arc ∷ arcs) d from h in omega (arith, less),
  descent_simple graph room distances (end_of graph arc) arcs d.1,
)

then_lesser : (x y : ℕ) (rest : Ordering) → x ≤ y → (x ≡ y → is_gt rest ≡ false) → is_gt (ordering_then (nat_cmp x y) rest) ≡ false
then_lesser x y rest least equal = by (cases_lt x y)
  where
    by : (x < y) ⊎ (y ≤ x) → is_gt (ordering_then (nat_cmp x y) rest) ≡ false
    by (inl less) = ap (λ o. is_gt (ordering_then o rest)) (sym (nat_cmp_is x y Ordering.Less less))
    by (inr most) =
        let same : x ≡ y = omega (arith, least, most) in
        ap (λ o. is_gt (ordering_then o rest)) (sym (nat_cmp_is x y Ordering.Equal same)) ∙ equal same

-- no other way of as many arcs has lesser borders
descent_least : (graph : Graph) (room : Arc → ℕ) (to : ℕ) (distances : List (Option ℕ)) (from : ℕ) (arcs others : List Arc) → IsGraph graph
    → AreDistances graph room to distances → IsDescent graph room distances from arcs → IsWay graph room from others to → length arcs ≡ length others
    → is_gt (slice_cmp nat_cmp (map (λ (arc : Arc). arc.border) arcs) (map (λ (arc : Arc). arc.border) others)) ≡ false
descent_least graph room to distances from [] [] is a d way same = refl
descent_least graph room to distances from [] (other ∷ others) is a d way same = absurd (omega arith)
descent_least graph room to distances from (arc ∷ arcs) [] is a d way same = absurd (omega arith)
descent_least graph room to distances from (arc ∷ arcs) (other ∷ others) is a d way same =
    let long = way_long graph room to distances (end_of graph other) others a way.3 in
    let short = descent_length graph room distances from (arc ∷ arcs) d in
    let fall = a.falls other way.0 way.2 in
    let start = ap (distance_at distances) way.1 in
    let falls : distance_at distances from ≡ distance_at distances (end_of graph other) + 1 = omega (arith, long, short, fall, start, same) in
    then_lesser arc.border other.border _ (d.0.least other way.0 way.1 way.2 falls)
    (λ border. descent_least graph room to distances (end_of graph arc) arcs others is a d.1
    (subst (λ x. IsWay graph room (end_of graph x) others to) (sym (same_arc graph arc other is d.0.known border (d.0.start ∙ sym way.1))) way.3) (omega (arith, same)))

-- a descent is the best route
pub descent_is_best : (graph : Graph) (room : Arc → ℕ) (from to : ℕ) (distances : List (Option ℕ)) (arcs : List Arc) → IsGraph graph
    → AreDistances graph room to distances → IsDescent graph room distances from arcs → best_route graph room from to ≡ Some arcs
descent_is_best graph room from to distances arcs is a d =
    best_route-unique graph room from to arcs is (record {
      route = record { way = descent_way graph room to distances from arcs a d; simple = descent_simple graph room distances from arcs d };
      best = λ other r. then_lesser (length arcs) (length other) _
          (omega (arith, descent_length graph room distances from arcs d, way_long graph room to distances from other a r.way))
          (λ same. descent_least graph room to distances from arcs other is a d r.way same);
    })
