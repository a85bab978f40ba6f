-- Ways and how long they are: what a way contains, how it is turned round, and when the best route
-- is the same over other rooms.
use Rattle.std.proofs.Common.{◌≡◌, ◌∙◌, ◌+◌, ◌<◌, ◌≤◌, ◌⊎◌, inl, inr, ℕ, Bool, true, false, List, [], ◌∷◌, ◌++◌, length, map, Option, Some, None, refl, sym, ap, subst, arith}
use Rattle.std.specs.Cmp.{nat_cmp_is}
use Rattle.std.specs.Cmp.Lexicographic.{slice_cmp}
use Rattle.std.specs.Ordering.{is_gt, nat_cmp, ordering_then}
use Rattle.std.specs.declared.cmp.Ordering.{Ordering}
use Rattle.std.proofs.lemmas.Bool.{cases_lt, true≢false}
use Rattle.zone_graph.specs.declared.route.Arc.{Arc}
use Rattle.zone_graph.specs.Graph.{Graph, HasArc, IsGraph, end_of, start_of}
use Rattle.zone_graph.specs.Route.{IsBestRoute, IsIn, IsRoute, IsWay, best_route, has, route_cmp, zones_on}
use Rattle.zone_graph.proofs.BestRoute.{best_route-is, best_route-no_route, best_route-none, best_route-unique}
use Rattle.zone_graph.proofs.Membership.{IsIn-has, has-IsIn}
use Rattle.route_choice.specs.Freshness.{IsShortestRoute}

-- ---- ways

-- one way after another
pub way_join : (graph : Graph) (room : Arc → ℕ) (from middle to : ℕ) (front back : List Arc)
    → IsWay graph room from front middle → IsWay graph room middle back to → IsWay graph room from (front ++ back) to
way_join graph room from middle to [] back first then = subst (λ z. IsWay graph room z back to) (sym first) then
way_join graph room from middle to (arc ∷ front) back first then =
    (first.0, first.1, first.2, way_join graph room (end_of graph arc) middle to front back first.3 then)

-- a way leads to where an arc of it starts, and on from where the arc ends
pub record IsWayOver (graph : Graph) (room : Arc → ℕ) (from to : ℕ) (arcs : List Arc) (arc : Arc) (front back : List Arc) : Type 0 where
  pub parts : length arcs ≡ length front + (1 + length back)
  pub first : IsWay graph room from front (start_of graph arc)
  pub known : HasArc graph arc
  pub some : 0 < room arc
  pub then : IsWay graph room (end_of graph arc) back to

pub way_over : (graph : Graph) (room : Arc → ℕ) (from to : ℕ) (arcs : List Arc) (arc : Arc) → IsWay graph room from arcs to → IsIn arc arcs
    → (front : List Arc) × (back : List Arc) × IsWayOver graph room from to arcs arc front back
way_over graph room from to [] arc way i = absurd i
way_over graph room from to (next ∷ arcs) arc way i = elim i [
  | inl e ↦ (
    [],
    arcs,
    record {
      parts = omega arith;
      first = sym way.1 ∙ ap (start_of graph) (sym e);
      known = subst (HasArc graph) (sym e) way.0;
      some = subst (λ (a : Arc). 0 < room a) (sym e) way.2;
      then = subst (λ (a : Arc). IsWay graph room (end_of graph a) arcs to) (sym e) way.3;
    },
  )
  | inr j ↦
      let r = way_over graph room (end_of graph next) to arcs arc way.3 j in (
        next ∷ r.0,
        r.1,
        record {
          parts = omega (arith, r.2.parts);
          first = (way.0, way.1, way.2, r.2.first);
          known = r.2.known;
          some = r.2.some;
          then = r.2.then;
        },
      )
]

-- ---- routes in ways

-- a route leads on from each zone on it
short_from : (graph : Graph) (room : Arc → ℕ) (from to : ℕ) (arcs : List Arc) (zone : ℕ) → IsRoute graph room from to arcs
    → IsIn zone (zones_on graph from arcs)
    → (rest : List Arc) × IsRoute graph room zone to rest × (length rest ≤ length arcs)
short_from graph room from to [] zone r i = elim i [
  | inl e ↦ ([], subst (λ z. IsRoute graph room z to []) (sym e) r, omega arith)
  | inr never ↦ absurd never
]
short_from graph room from to (arc ∷ arcs) zone r i = elim i [
  | inl e ↦ (arc ∷ arcs, subst (λ z. IsRoute graph room z to (arc ∷ arcs)) (sym e) r, omega arith)
  | inr j ↦
      let rest = short_from graph room (end_of graph arc) to arcs zone (record { way = r.way.3; simple = r.simple.1 }) j in
      (rest.0, rest.1, omega (arith, rest.2))
]

-- a way contains a route that is no longer
pub way_short_route : (graph : Graph) (room : Arc → ℕ) (from to : ℕ) (arcs : List Arc) → IsWay graph room from arcs to
    → (route : List Arc) × IsRoute graph room from to route × (length route ≤ length arcs)
way_short_route graph room from to [] way = ([], record { way = way; simple = (λ never. never, tt) }, omega arith)
way_short_route graph room from to (arc ∷ arcs) way =
    let rest = way_short_route graph room (end_of graph arc) to arcs way.3 in
    by rest.0 rest.1 rest.2 (has from (zones_on graph (end_of graph arc) rest.0)) refl
  where
    by : (rest : List Arc) → IsRoute graph room (end_of graph arc) to rest → length rest ≤ length arcs
        → (b : Bool) → has from (zones_on graph (end_of graph arc) rest) ≡ b → (route : List Arc) × IsRoute graph room from to route × (length route ≤ length (arc ∷ arcs))
    by rest r less true e =
        let on = short_from graph room (end_of graph arc) to rest from r (IsIn-has from (zones_on graph (end_of graph arc) rest) e) in
        (on.0, on.1, omega (arith, on.2, less))
    by rest r less false e = (
      arc ∷ rest,
      record {
        way = (way.0, way.1, way.2, r.way);
        simple = (λ i. true≢false (sym (has-IsIn from (zones_on graph (end_of graph arc) rest) i) ∙ e), r.simple);
      },
      omega (arith, less),
    )

-- ---- shortest and best routes

-- of routes of which one does not come after the other it is not longer
pub not_longer : (a b : List Arc) → is_gt (route_cmp a b) ≡ false → length a ≤ length b
not_longer a b e = by (cases_lt (length b) (length a))
  where
    by : (length b < length a) ⊎ (length a ≤ length b) → length a ≤ length b
    by (inr least) = least
    by (inl less) =
        let more : nat_cmp (length a) (length b) ≡ Ordering.Greater = sym (nat_cmp_is (length a) (length b) Ordering.Greater less) in
        let after : is_gt (route_cmp a b) ≡ true =
        ap (λ o. is_gt (ordering_then o (slice_cmp nat_cmp (map (λ (arc : Arc). arc.border) a) (map (λ (arc : Arc). arc.border) b)))) more in
        absurd (true≢false (sym after ∙ e))

pub shorter_first : (a b : List Arc) → length a < length b → is_gt (route_cmp a b) ≡ false
shorter_first a b less =
    ap (λ o. is_gt (ordering_then o (slice_cmp nat_cmp (map (λ (arc : Arc). arc.border) a) (map (λ (arc : Arc). arc.border) b))))
    (sym (nat_cmp_is (length a) (length b) Ordering.Less less))

-- the best route is a shortest one
pub best_is_shortest : (graph : Graph) (room : Arc → ℕ) (from to : ℕ) (arcs : List Arc) → IsGraph graph → best_route graph room from to ≡ Some arcs
    → IsShortestRoute graph room from to arcs
best_is_shortest graph room from to arcs is e =
    let best = best_route-is graph room from to arcs is e in
    record { route = best.route; shortest = λ other r. not_longer arcs other (best.best other r) }

-- no way is shorter than a shortest route
pub shortest_way : (graph : Graph) (room : Arc → ℕ) (from to : ℕ) (arcs others : List Arc) → IsShortestRoute graph room from to arcs
    → IsWay graph room from others to
    → length arcs ≤ length others
shortest_way graph room from to arcs others s way =
    let short = way_short_route graph room from to others way in omega (arith, short.2, s.shortest short.0 short.1)

-- the best route is the same over rooms over which ways are ways too, and whose other ways are
-- longer than one over the first rooms
pub same_best : (graph : Graph) (room after : Arc → ℕ) (from to : ℕ) → IsGraph graph
    → ((arcs : List Arc) → IsWay graph room from arcs to → IsWay graph after from arcs to)
    → ((arcs : List Arc) → IsWay graph after from arcs to → IsWay graph room from arcs to ⊎ ((short : List Arc) × IsWay graph room from short to × (length short < length arcs)))
    → best_route graph after from to ≡ best_route graph room from to
same_best graph room after from to is kept back = found (best_route graph room from to) refl
  where
    beats : (best : List Arc) → IsBestRoute graph room from to best → (other : List Arc) → IsRoute graph after from to other → is_gt (route_cmp best other) ≡ false
    beats best b other r = elim (back other r.way) [
      | inl way ↦ b.best other (record { way = way; simple = r.simple })
      | inr short ↦
          let route = way_short_route graph room from to short.0 short.1 in
          let least = not_longer best route.0 (b.best route.0 route.1) in
          shorter_first best other (omega (arith, least, route.2, short.2))
    ]

    none : best_route graph room from to ≡ None → (arcs : List Arc) → ¬ IsRoute graph after from to arcs
    none e arcs r = elim (back arcs r.way) [
      | inl way ↦ best_route-none graph room from to arcs is e (record { way = way; simple = r.simple })
      | inr short ↦
          let route = way_short_route graph room from to short.0 short.1 in best_route-none graph room from to route.0 is e route.1
    ]

    found : (o : Option (List Arc)) → best_route graph room from to ≡ o → best_route graph after from to ≡ best_route graph room from to
    found None e = best_route-no_route graph after from to is (none e) ∙ sym e
    found (Some best) e =
        let b = best_route-is graph room from to best is e in
        best_route-unique graph after from to best is (record {
          route = record { way = kept best b.route.way; simple = b.route.simple };
          best = beats best b;
        }) ∙ sym e
