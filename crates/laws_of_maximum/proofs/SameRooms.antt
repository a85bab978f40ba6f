-- The zones in reach and the room across borders, where the rooms of the graph's arcs are the same.
use Rattle.std.specs.List.{range_with_len}
use Rattle.std.specs.Option.{is_some}
use Rattle.std.proofs.Common.{◌≡◌, inl, inr, ℕ, Bool, List, [], ◌∷◌, filter, sum_by, refl, ap, arith}
use Rattle.std.proofs.lemmas.List.Sums.{sum_by-cons}
use Rattle.order_kinds.specs.declared.side.Side.{Side}
use Rattle.order_kinds.specs.declared.side.Side.TheVariants.{Buy, Sell}
use Rattle.order_kinds.specs.Same.{same_side}
use Rattle.zone_graph.specs.declared.route.Arc.{Arc}
use Rattle.zone_graph.specs.Graph.{Graph, HasArc, IsGraph, arcs_of, zone_count}
use Rattle.zone_graph.specs.Reach.{enters, leaves, reaches}
use Rattle.zone_graph.specs.Route.{IsIn}
use Rattle.zone_graph.proofs.BestRoute.{best_route-rooms}
use Rattle.zone_graph.proofs.Membership.{from_filter}
use Rattle.zone_graph.proofs.Routes.{from_arcs_of}
use Rattle.market_model.specs.Certificate.{room_across, zones_in_reach}
use Rattle.laws_of_market.proofs.Restrict.{filter-same}
use Rattle.cut_proof.specs.Cut.{crossing_room, reached_zones}

sum-same : {X : Type 0} (f g : X → ℕ) (xs : List X) → ((x : X) → IsIn x xs → f x ≡ g x) → sum_by f xs ≡ sum_by g xs
sum-same f g [] same = refl
sum-same f g (x ∷ xs) same =
    omega (arith, sum_by-cons f x xs, sum_by-cons g x xs, same x (inl refl), sum-same f g xs (λ y i. same y (inr i)))

module _ (graph : Graph) (made rooms : Arc → ℕ) (same : (arc : Arc) → HasArc graph arc → made arc ≡ rooms arc) where
  reaches-same : IsGraph graph → (from to : ℕ) → reaches graph made from to ≡ reaches graph rooms from to
  reaches-same is from to = ap is_some (best_route-rooms graph made rooms from to is same)

  pub reach-same : IsGraph graph → (side : Side) (zone : ℕ) → reached_zones graph made zone (same_side side Buy) ≡ zones_in_reach graph rooms side zone
  reach-same is Buy zone =
      filter-same (λ other. reaches graph made other zone) (λ other. reaches graph rooms other zone) (range_with_len 0 (zone_count graph)) (λ other i. reaches-same is other zone)
  reach-same is Sell zone =
      filter-same (λ other. reaches graph made zone other) (λ other. reaches graph rooms zone other) (range_with_len 0 (zone_count graph)) (λ other i. reaches-same is zone other)

  crossing-same : (p : Arc → Bool) → sum_by made (filter p (arcs_of graph)) ≡ sum_by rooms (filter p (arcs_of graph))
  crossing-same p = sum-same made rooms (filter p (arcs_of graph)) (λ arc i. same arc (from_arcs_of graph arc (from_filter p arc (arcs_of graph) i).0))

  pub across-same : (side : Side) (zones : List ℕ) → crossing_room graph made zones (same_side side Buy) ≡ room_across graph rooms side zones
  across-same Buy zones = crossing-same (enters graph zones)
  across-same Sell zones = crossing-same (leaves graph zones)
