-- What a route carries out of a zone and into it, and what is sold and bought in the zones of a graph.
use Rattle.std.proofs.Common.{◌≡◌, ◌∙◌, ◌+◌, ◌==◌, ◌&&◌, ℕ, Bool, true, false, cond, List, [], ◌∷◌, filter, flat_map, sum_by, refl, ap, arith}
use Rattle.std.proofs.lemmas.List.Sums.{sum_by-cons}
use Rattle.std.specs.List.{range_with_len}
use Rattle.zone_graph.specs.declared.route.Arc.{Arc}
use Rattle.zone_graph.specs.Graph.{Graph, HasZone, arcs_of, arcs_over, end_of, start_of, zone_count}
use Rattle.zone_graph.specs.Pour.{lots_if, uses}
use Rattle.zone_graph.specs.Route.{IsRoute, has}
use Rattle.zone_graph.proofs.Arcs.{over}
use Rattle.zone_graph.proofs.Membership.{IsIn-range, has-IsIn}
use Rattle.cut_proof.proofs.ArcSums.{sum_nothing}
use Rattle.route_choice.specs.Flow.{sent_out, taken_in}
use Rattle.route_choice.proofs.Flows.{at_zones, different-range, route-balance, sum_same, sum_zones}

-- what a route carries where it carries at all leaves the zone where it starts, comes into the zone where
-- it ends, and goes through all others
module _ (graph : Graph) (room : Arc → ℕ) (from to lots : ℕ) (route : List Arc) (is : IsRoute graph room from to route) where
  pub route-balance-if : (b : Bool) (zone : ℕ)
      → sent_out graph (λ arc. lots_if (b && uses route arc) lots) zone + lots_if (b && (to == zone)) lots
      ≡ taken_in graph (λ arc. lots_if (b && uses route arc) lots) zone + lots_if (b && (from == zone)) lots
  route-balance-if true zone = route-balance graph room from to lots route is zone
  route-balance-if false zone =
      omega (
        arith,
        sum_nothing (λ (arc : Arc). 0) (filter (λ arc. start_of graph arc == zone) (arcs_of graph)) (λ arc i. refl),
        sum_nothing (λ (arc : Arc). 0) (filter (λ arc. end_of graph arc == zone) (arcs_of graph)) (λ arc i. refl),
      )

-- what counts in one zone of a graph counts once
pub zone-once : (graph : Graph) (zone lots : ℕ) (b : Bool) → HasZone graph zone
    → sum_by (λ other. lots_if (b && (zone == other)) lots) (range_with_len 0 (zone_count graph)) ≡ lots_if b lots
zone-once graph zone lots false known = sum_nothing (λ (other : ℕ). 0) (range_with_len 0 (zone_count graph)) (λ other i. refl)
zone-once graph zone lots true known =
    sum_same (λ other. lots_if (zone == other) lots) (λ other. sum_by (λ (z : ℕ). lots) (filter (λ z. z == other) (zone ∷ []))) (range_with_len 0 (zone_count graph)) alone
    ∙ sum_zones (λ (z : ℕ). z) (λ (z : ℕ). lots) (zone ∷ []) (range_with_len 0 (zone_count graph)) (different-range 0 (zone_count graph))
    ∙ inside
  where
    alone : (other : ℕ) → lots_if (zone == other) lots ≡ sum_by (λ (z : ℕ). lots) (filter (λ z. z == other) (zone ∷ []))
    alone other = by (zone == other)
      where
        by : (b : Bool) → lots_if b lots ≡ sum_by (λ (z : ℕ). lots) (cond b (zone ∷ []) [])
        by true = omega arith
        by false = refl

    inside : sum_by (at_zones (λ (z : ℕ). z) (λ (z : ℕ). lots) (range_with_len 0 (zone_count graph))) (zone ∷ []) ≡ lots
    inside =
        let there : has zone (range_with_len 0 (zone_count graph)) ≡ true =
        has-IsIn zone (range_with_len 0 (zone_count graph)) (IsIn-range zone 0 (zone_count graph) (omega arith) (omega (arith, known))) in
        let own : lots_if (has zone (range_with_len 0 (zone_count graph))) lots ≡ lots = ap (λ b. lots_if b lots) there in
        omega (arith, own)

-- ---- arcs by borders

-- a sum over the arcs of some borders is that over their forward arcs and that over the others
pub sum_over : (f : Arc → ℕ) (borders : List ℕ)
    → sum_by f (flat_map arcs_over borders) ≡ sum_by (λ border. f (over border true)) borders + sum_by (λ border. f (over border false)) borders
sum_over f [] = refl
sum_over f (border ∷ borders) =
    omega (
      arith,
      sum_by-cons f (over border true) (over border false ∷ flat_map arcs_over borders),
      sum_by-cons f (over border false) (flat_map arcs_over borders),
      sum_by-cons (λ b. f (over b true)) border borders,
      sum_by-cons (λ b. f (over b false)) border borders,
      sum_over f borders,
    )
