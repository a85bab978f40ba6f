-- The routes that are listed are the routes there are.
use Rattle.std.proofs.Common.{◌≡◌, ◌<◌, ◌≤◌, ◌⊎◌, inl, inr, ℕ, zero, suc, Bool, true, false, ◌==◌, List, [], ◌∷◌, length, map, flat_map, nat_eq, refl, sym, ap, subst, arith, eq-eqb, eqb-true, ltb-true, lt-ltb}
use Rattle.std.proofs.lemmas.Bool.{and_from, and_parts}
use Rattle.std.proofs.lemmas.List.{length-map}
use Rattle.std.specs.List.{range_with_len}
use Rattle.zone_graph.specs.declared.route.Arc.{Arc}
use Rattle.zone_graph.specs.Graph.{Graph, HasArc, IsGraph, HasZone, arcs_from, arcs_of, arcs_over, border_count, end_of, start_of, zone_count}
use Rattle.zone_graph.specs.Route.{AreDifferent, IsIn, IsRoute, IsWay, arrived_or, begun_with, can_take, routes, routes_through, without, zones_on}
use Rattle.zone_graph.proofs.Membership.{IsIn-filter, IsIn-flat_map, IsIn-has, IsIn-map, IsIn-range, IsIn-without, from_filter, from_flat_map, from_map, from_range, from_without, has-IsIn, length-without}

-- an arc is its border and its direction
pub IsIn-arcs_of : (graph : Graph) (arc : Arc) → HasArc graph arc → IsIn arc (arcs_of graph)
IsIn-arcs_of graph arc known =
    IsIn-flat_map arcs_over arc.border arc (range_with_len 0 (border_count graph)) (IsIn-range arc.border 0 (border_count graph) (omega arith) (omega (arith, known)))
    (one_of arc.forward refl)
  where
    one_of : (b : Bool) → arc.forward ≡ b → IsIn arc (arcs_over arc.border)
    one_of true e = inl (ap (λ (f : Bool). record { border = arc.border; forward = f }) e)
    one_of false e = inr (inl (ap (λ (f : Bool). record { border = arc.border; forward = f }) e))

pub from_arcs_of : (graph : Graph) (arc : Arc) → IsIn arc (arcs_of graph) → HasArc graph arc
from_arcs_of graph arc h =
    let r = from_flat_map arcs_over arc (range_with_len 0 (border_count graph)) h in
    let known = from_range r.0 0 (border_count graph) r.1 in
    let border : arc.border ≡ r.0 = elim r.2 [
      | inl e ↦ ap (λ (a : Arc). a.border) e
      | inr i ↦ elim i [ inl e ↦ ap (λ (a : Arc). a.border) e | inr never ↦ absurd never ]
    ] in
    omega (arith, known.1, border)

-- the zones after the first on a way
abbrev pub zones_after : Graph → List Arc → List ℕ
zones_after graph arcs = map (end_of graph) arcs

-- a way through zones that are free, each at most once
pub record IsFreeWay (graph : Graph) (room : Arc → ℕ) (free : List ℕ) (from to : ℕ) (arcs : List Arc) : Type 0 where
  pub way : IsWay graph room from arcs to
  pub within : (zone : ℕ) → IsIn zone (zones_after graph arcs) → IsIn zone free
  pub simple : AreDifferent (zones_after graph arcs)

-- the routes that lead on by an arc from a zone
abbrev pub onward_by : (most : ℕ) (graph : Graph) (room : Arc → ℕ) (free : List ℕ) (to : ℕ) → Arc → List (List Arc)
onward_by most graph room free to arc =
    begun_with (can_take graph room free arc) arc (λ _. routes_through most graph room (without (end_of graph arc) free) (end_of graph arc) to)

abbrev pub onward_from : (most : ℕ) (graph : Graph) (room : Arc → ℕ) (free : List ℕ) (from to : ℕ) → Unit {0} → List (List Arc)
onward_from most graph room free from to u = flat_map (onward_by most graph room free to) (arcs_from graph from)

-- where the zone is reached, the listed route is the empty one, and else it leads on
pub from_arrived_or : (arcs : List Arc) (b : Bool) (onward : Unit {0} → List (List Arc)) → IsIn arcs (arrived_or b onward)
    → ((b ≡ true) × (arcs ≡ [])) ⊎ ((b ≡ false) × IsIn arcs (onward tt))
from_arrived_or arcs true onward h = elim h [ inl e ↦ inl (refl, e) | inr never ↦ absurd never ]
from_arrived_or arcs false onward h = inr (refl, h)

-- a listed route begins with its arc, which can be taken
pub from_begun_with : (arcs : List Arc) (b : Bool) (arc : Arc) (onward : Unit {0} → List (List Arc)) → IsIn arcs (begun_with b arc onward)
    → (rest : List Arc) × (b ≡ true) × IsIn rest (onward tt) × (arcs ≡ arc ∷ rest)
from_begun_with arcs true arc onward h = let r = from_map (λ rest. arc ∷ rest) arcs (onward tt) h in (r.0, refl, r.1, r.2)
from_begun_with arcs false arc onward h = absurd h

-- the empty way
arrived : (graph : Graph) (room : Arc → ℕ) (free : List ℕ) (from to : ℕ) (arcs : List Arc) → nat_eq from to ≡ true → arcs ≡ []
    → IsFreeWay graph room free from to arcs
arrived graph room free from to arcs e none =
    let same : from ≡ to = eqb-true from to e in
    subst (IsFreeWay graph room free from to) (sym none) (record { way = same; within = λ zone never. absurd never; simple = tt })

-- each listed route is a way through the free zones
pub listed_is_way : (most : ℕ) (graph : Graph) (room : Arc → ℕ) (free : List ℕ) (from to : ℕ) (arcs : List Arc)
    → IsIn arcs (routes_through most graph room free from to) → IsFreeWay graph room free from to arcs
unfolding routes_through
listed_is_way zero graph room free from to arcs h = elim (from_arrived_or arcs (from == to) (λ _. []) h) [
  | inl l ↦ arrived graph room free from to arcs l.0 l.1
  | inr r ↦ absurd r.1
]
listed_is_way (suc most) graph room free from to arcs h =
    elim (from_arrived_or arcs (from == to) _ h) [
      | inl l ↦ arrived graph room free from to arcs l.0 l.1
      | inr r ↦
          let t = from_flat_map _ arcs (arcs_from graph from) r.1 in
          let arc = t.0 in
          let leaving = from_filter (λ (a : Arc). nat_eq (start_of graph a) from) arc (arcs_of graph) t.1 in
          let u = from_begun_with arcs (can_take graph room free arc) arc _ t.2 in
          let rest = listed_is_way most graph room (without (end_of graph arc) free) (end_of graph arc) to u.0 u.2 in
          let has_room : 0 < room arc = ltb-true 0 (room arc) (and_parts _ _ u.1).0 in
          let is_free : IsIn (end_of graph arc) free = IsIn-has (end_of graph arc) free (and_parts _ _ u.1).1 in
          subst (IsFreeWay graph room free from to) (sym u.3) (record {
            way = (from_arcs_of graph arc leaving.0, eqb-true (start_of graph arc) from leaving.1, has_room, rest.way);
            within = λ zone i. elim i [
              | inl e ↦ subst (λ z. IsIn z free) (sym e) is_free
              | inr j ↦ (from_without (end_of graph arc) zone free (rest.within zone j)).0
            ];
            simple = (λ i. (from_without (end_of graph arc) (end_of graph arc) free (rest.within (end_of graph arc) i)).1 refl, rest.simple);
          })
    ]

-- a route is never back at its first zone, so a way that is nowhere twice and has an arc leads elsewhere
leads_on : (graph : Graph) (room : Arc → ℕ) (from to : ℕ) (arc : Arc) (arcs : List Arc)
    → IsWay graph room from (arc ∷ arcs) to → AreDifferent (zones_on graph from (arc ∷ arcs)) → nat_eq from to ≡ false
leads_on graph room from to arc arcs way simple = differs (nat_eq from to) refl
  where
    last_zone : (start : ℕ) (rest : List Arc) → IsWay graph room start rest to → (start ≡ to) ⊎ IsIn to (zones_after graph rest)
    last_zone start [] w = inl w
    last_zone start (next ∷ rest) w = elim (last_zone (end_of graph next) rest w.3) [ inl e ↦ inr (inl (sym e)) | inr i ↦ inr (inr i) ]

    returns : IsIn to (zones_after graph (arc ∷ arcs))
    returns = elim (last_zone (end_of graph arc) arcs way.3) [ inl e ↦ inl (sym e) | inr i ↦ inr i ]

    differs : (b : Bool) → nat_eq from to ≡ b → nat_eq from to ≡ false
    differs true e = absurd (simple.0 (subst (λ z. IsIn z (zones_after graph (arc ∷ arcs))) (sym (eqb-true from to e)) returns))
    differs false e = e

-- each route through free zones is listed
pub way_is_listed : (most : ℕ) (graph : Graph) (room : Arc → ℕ) (free : List ℕ) (from to : ℕ) (arcs : List Arc)
    → IsWay graph room from arcs to → AreDifferent (zones_on graph from arcs) → ((zone : ℕ) → IsIn zone (zones_after graph arcs) → IsIn zone free)
    → length arcs ≤ most → IsIn arcs (routes_through most graph room free from to)
unfolding routes_through
way_is_listed zero graph room free from to [] way simple within few = subst (λ b. IsIn [] (arrived_or b (λ _. []))) (sym (eq-eqb from to way)) (inl refl)
way_is_listed zero graph room free from to (arc ∷ arcs) way simple within few = absurd (omega arith)
way_is_listed (suc most) graph room free from to [] way simple within few = subst (λ b. IsIn [] (arrived_or b (onward_from most graph room free from to))) (sym (eq-eqb from to way)) (inl refl)
way_is_listed (suc most) graph room free from to (arc ∷ arcs) way simple within few =
    let end = end_of graph arc in
    let rest : IsIn arcs (routes_through most graph room (without end free) end to) =
    way_is_listed most graph room (without end free) end to arcs way.3 simple.1
    (λ zone i. IsIn-without end zone free (within zone (inr i)) (λ same. simple.1.0 (subst (λ z. IsIn z (zones_after graph arcs)) same i)))
    (omega arith) in
    let taken : can_take graph room free arc ≡ true = and_from _ _ (lt-ltb 0 (room arc) way.2) (has-IsIn end free (within end (inl refl))) in
    let begun : IsIn (arc ∷ arcs) (begun_with (can_take graph room free arc) arc (λ _. routes_through most graph room (without end free) end to)) =
    subst (λ b. IsIn (arc ∷ arcs) (begun_with b arc (λ _. routes_through most graph room (without end free) end to))) (sym taken) (IsIn-map (λ l. arc ∷ l) arcs _ rest) in
    let leaving : IsIn arc (arcs_from graph from) =
    IsIn-filter (λ (a : Arc). nat_eq (start_of graph a) from) arc (arcs_of graph) (IsIn-arcs_of graph arc way.0) (eq-eqb (start_of graph arc) from way.1) in
    subst (λ b. IsIn (arc ∷ arcs) (arrived_or b (onward_from most graph room free from to))) (sym (leads_on graph room from to arc arcs way simple))
    (IsIn-flat_map (onward_by most graph room free to) arc (arc ∷ arcs) (arcs_from graph from) leaving begun)

-- different zones that are all among some are no more than these
pub few_zones : (zones free : List ℕ) → AreDifferent zones → ((zone : ℕ) → IsIn zone zones → IsIn zone free) → length zones ≤ length free
few_zones [] free different within = omega arith
few_zones (zone ∷ zones) free different within =
    let rest : length zones ≤ length (without zone free) = few_zones zones (without zone free) different.1
    (λ other i. IsIn-without zone other free (within other (inr i)) (λ same. different.0 (subst (λ z. IsIn z zones) same i))) in
    let less = length-without zone free (within zone (inl refl)) in
    omega (arith, rest, less)

-- each listed route is a route
pub listed_is_route : (graph : Graph) (room : Arc → ℕ) (from to : ℕ) (arcs : List Arc) → IsIn arcs (routes graph room from to) → IsRoute graph room from to arcs
listed_is_route graph room from to arcs h =
    let free = without from (range_with_len 0 (zone_count graph)) in
    let w = listed_is_way (length free) graph room free from to arcs h in
    record {
      way = w.way;
      simple = (λ i. (from_without from from (range_with_len 0 (zone_count graph)) (w.within from i)).1 refl, w.simple);
    }

-- an arc of a graph leads to a zone of it
pub end_within : (graph : Graph) (arc : Arc) → IsGraph graph → HasArc graph arc → HasZone graph (end_of graph arc)
end_within graph arc is known = directed arc.forward refl
  where
    directed : (b : Bool) → arc.forward ≡ b → HasZone graph (end_of graph arc)
    directed true e = subst (λ (f : Bool). HasZone graph (end_of graph (record { border = arc.border; forward = f }))) (sym e) (is.within arc.border known).1
    directed false e = subst (λ (f : Bool). HasZone graph (end_of graph (record { border = arc.border; forward = f }))) (sym e) (is.within arc.border known).0

way_within : (graph : Graph) (room : Arc → ℕ) (from to : ℕ) (arcs : List Arc) → IsGraph graph → IsWay graph room from arcs to
    → (zone : ℕ) → IsIn zone (zones_after graph arcs) → HasZone graph zone
way_within graph room from to [] is way zone i = absurd i
way_within graph room from to (arc ∷ arcs) is way zone i = elim i [
  | inl e ↦ subst (HasZone graph) (sym e) (end_within graph arc is way.0)
  | inr j ↦ way_within graph room (end_of graph arc) to arcs is way.3 zone j
]

-- each route is listed
pub route_is_listed : (graph : Graph) (room : Arc → ℕ) (from to : ℕ) (arcs : List Arc) → IsGraph graph → IsRoute graph room from to arcs
    → IsIn arcs (routes graph room from to)
route_is_listed graph room from to arcs is route =
    let all = range_with_len 0 (zone_count graph) in
    let free = without from all in
    let within : (zone : ℕ) → IsIn zone (zones_after graph arcs) → IsIn zone free = λ zone i.
    let known = way_within graph room from to arcs is route.way zone i in
    IsIn-without from zone all (IsIn-range zone 0 (zone_count graph) (omega arith) (omega (arith, known)))
    (λ same. route.simple.0 (subst (λ z. IsIn z (zones_after graph arcs)) same i)) in
    let few = few_zones (zones_after graph arcs) free route.simple.1 within in
    way_is_listed (length free) graph room free from to arcs route.way route.simple within (omega (arith, few, length-map arcs (end_of graph)))
