-- Ways and routes: the arcs and zones on them, their fronts and ends, and the route that a way
-- contains.
use Rattle.std.proofs.Common.{◌≡◌, ◌∙◌, ◌+◌, ◌<◌, ◌==◌, inl, inr, ℕ, Bool, true, false, List, [], ◌∷◌, ◌++◌, map, sum_by, refl, sym, ap, subst, arith}
use Rattle.std.proofs.lemmas.Bool.{true≢false}
use Rattle.std.proofs.lemmas.List.Sums.{sum_by-cons}
use Rattle.zone_graph.specs.declared.route.Arc.{Arc}
use Rattle.zone_graph.specs.Graph.{Graph, HasArc, end_of, start_of}
use Rattle.zone_graph.specs.Pour.{lots_if}
use Rattle.zone_graph.specs.Route.{AreDifferent, IsIn, IsRoute, IsWay, has, zones_on}
use Rattle.zone_graph.proofs.Membership.{IsIn-has, IsIn-map, from_map, has-IsIn}
use Rattle.zone_graph.proofs.Arcs.{same_border, opposite-start}

-- an arc of a way is one of the graph's
pub way_has_arc : (graph : Graph) (room : Arc → ℕ) (from to : ℕ) (arcs : List Arc) (arc : Arc)
    → IsWay graph room from arcs to → IsIn arc arcs → HasArc graph arc
way_has_arc graph room from to [] arc way i = absurd i
way_has_arc graph room from to (next ∷ arcs) arc way i = elim i [
  | inl e ↦ subst (HasArc graph) (sym e) way.0
  | inr j ↦ way_has_arc graph room (end_of graph next) to arcs arc way.3 j
]

-- it starts at a zone on the way
pub way_start_in : (graph : Graph) (room : Arc → ℕ) (from to : ℕ) (arcs : List Arc) (arc : Arc)
    → IsWay graph room from arcs to → IsIn arc arcs → IsIn (start_of graph arc) (zones_on graph from arcs)
way_start_in graph room from to [] arc way i = absurd i
way_start_in graph room from to (next ∷ arcs) arc way i = elim i [
  | inl e ↦ inl (ap (start_of graph) e ∙ way.1)
  | inr j ↦ inr (way_start_in graph room (end_of graph next) to arcs arc way.3 j)
]

-- the way leads to where it starts, and on from where it ends
pub way_until : (graph : Graph) (room : Arc → ℕ) (from to : ℕ) (arcs : List Arc) (arc : Arc)
    → IsWay graph room from arcs to → IsIn arc arcs → (front : List Arc) × IsWay graph room from front (start_of graph arc)
way_until graph room from to [] arc way i = absurd i
way_until graph room from to (next ∷ arcs) arc way i = elim i [
  | inl e ↦ ([], sym way.1 ∙ ap (start_of graph) (sym e))
  | inr j ↦ let r = way_until graph room (end_of graph next) to arcs arc way.3 j in (next ∷ r.0, (way.0, way.1, way.2, r.1))
]

pub way_onward : (graph : Graph) (room : Arc → ℕ) (from to : ℕ) (arcs : List Arc) (arc : Arc)
    → IsWay graph room from arcs to → IsIn arc arcs → (rest : List Arc) × IsWay graph room (end_of graph arc) rest to
way_onward graph room from to [] arc way i = absurd i
way_onward graph room from to (next ∷ arcs) arc way i = elim i [
  | inl e ↦ (arcs, subst (λ (a : Arc). IsWay graph room (end_of graph a) arcs to) (sym e) way.3)
  | inr j ↦ way_onward graph room (end_of graph next) to arcs arc way.3 j
]

-- one more arc at the end of a way
pub way_longer : (graph : Graph) (room : Arc → ℕ) (from to : ℕ) (arcs : List Arc) (arc : Arc)
    → IsWay graph room from arcs to → HasArc graph arc → start_of graph arc ≡ to → 0 < room arc → IsWay graph room from (arcs ++ arc ∷ []) (end_of graph arc)
way_longer graph room from to [] arc way known start some = (known, start ∙ sym way, some, refl)
way_longer graph room from to (next ∷ arcs) arc way known start some =
    (way.0, way.1, way.2, way_longer graph room (end_of graph next) to arcs arc way.3 known start some)

-- a way leaves a zone as often as it comes to it, but for its ends
pub way-steps : (graph : Graph) (room : Arc → ℕ) (lots zone from to : ℕ) (arcs : List Arc) → IsWay graph room from arcs to
    → sum_by (λ arc. lots_if (start_of graph arc == zone) lots) arcs + lots_if (to == zone) lots ≡ sum_by (λ arc. lots_if (end_of graph arc == zone) lots) arcs + lots_if (from == zone) lots
way-steps graph room lots zone from to [] way = ap (λ z. 0 + lots_if (z == zone) lots) (sym way)
way-steps graph room lots zone from to (arc ∷ arcs) way =
    let start = ap (λ z. lots_if (z == zone) lots) way.1 in
    let rest = way-steps graph room lots zone (end_of graph arc) to arcs way.3 in
    omega (arith, sum_by-cons (λ (a : Arc). lots_if (start_of graph a == zone) lots) arc arcs, sum_by-cons (λ (a : Arc). lots_if (end_of graph a == zone) lots) arc arcs, start, rest)

-- ---- routes

-- a route leads on from each zone on it
pub route_from : (graph : Graph) (room : Arc → ℕ) (from to : ℕ) (arcs : List Arc) (zone : ℕ)
    → IsRoute graph room from to arcs → IsIn zone (zones_on graph from arcs) → (rest : List Arc) × IsRoute graph room zone to rest
route_from graph room from to [] zone r i = elim i [
  | inl e ↦ ([], subst (λ z. IsRoute graph room z to []) (sym e) r)
  | inr never ↦ absurd never
]
route_from graph room from to (arc ∷ arcs) zone r i = elim i [
  | inl e ↦ (arc ∷ arcs, subst (λ z. IsRoute graph room z to (arc ∷ arcs)) (sym e) r)
  | inr j ↦ route_from graph room (end_of graph arc) to arcs zone (record { way = r.way.3; simple = r.simple.1 }) j
]

-- where an arc leads to a route there is a route from its start
route_begun_by : (graph : Graph) (room : Arc → ℕ) (from to : ℕ) (arc : Arc) (arcs : List Arc)
    → HasArc graph arc → start_of graph arc ≡ from → 0 < room arc → IsRoute graph room (end_of graph arc) to arcs
    → (route : List Arc) × IsRoute graph room from to route
route_begun_by graph room from to arc arcs known start some r = by (has from (zones_on graph (end_of graph arc) arcs)) refl
  where
    by : (b : Bool) → has from (zones_on graph (end_of graph arc) arcs) ≡ b → (route : List Arc) × IsRoute graph room from to route
    by true e = route_from graph room (end_of graph arc) to arcs from r (IsIn-has from (zones_on graph (end_of graph arc) arcs) e)
    by false e = (
      arc ∷ arcs,
      record {
        way = (known, start, some, r.way);
        simple = (λ i. true≢false (sym (has-IsIn from (zones_on graph (end_of graph arc) arcs) i) ∙ e), r.simple);
      },
    )

-- where there is a way there is a route
pub way_has_route : (graph : Graph) (room : Arc → ℕ) (from to : ℕ) (arcs : List Arc)
    → IsWay graph room from arcs to → (route : List Arc) × IsRoute graph room from to route
way_has_route graph room from to [] way = ([], record { way = way; simple = (λ never. never, tt) })
way_has_route graph room from to (arc ∷ arcs) way =
    let rest = way_has_route graph room (end_of graph arc) to arcs way.3 in
    route_begun_by graph room from to arc rest.0 way.0 way.1 way.2 rest.1

-- a way that is in no zone twice takes no border twice
pub borders_once : (graph : Graph) (room : Arc → ℕ) (from to : ℕ) (arcs : List Arc)
    → IsWay graph room from arcs to → AreDifferent (zones_on graph from arcs) → AreDifferent (map (λ (arc : Arc). arc.border) arcs)
borders_once graph room from to [] way simple = tt
borders_once graph room from to (arc ∷ arcs) way simple =
    (again, borders_once graph room (end_of graph arc) to arcs way.3 simple.1)
  where
    again : ¬ IsIn arc.border (map (λ (a : Arc). a.border) arcs)
    again i =
        let r = from_map (λ (a : Arc). a.border) arc.border arcs i in
        elim (same_border arc r.0 r.2) [
          | inl e ↦ simple.0 (subst (λ z. IsIn z (zones_on graph (end_of graph arc) arcs)) (ap (start_of graph) (sym e) ∙ way.1)
              (way_start_in graph room (end_of graph arc) to arcs r.0 way.3 r.1))
          | inr e ↦ simple.0 (inr (subst (λ z. IsIn z (map (end_of graph) arcs)) (sym (opposite-start graph r.0) ∙ ap (start_of graph) (sym e) ∙ way.1)
              (IsIn-map (end_of graph) r.0 arcs r.1)))
        ]
