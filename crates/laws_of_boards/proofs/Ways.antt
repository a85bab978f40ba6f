-- A way over the rooms that a leg leaves was there before it, or leads by way of the leg's own ends.
use Rattle.std.proofs.Common.{◌∙◌, ◌⊎◌, inl, inr, ℕ, ◌<◌, List, [], ◌∷◌, ◌++◌, sym, subst}
use Rattle.zone_graph.specs.declared.route.Arc.{Arc}
use Rattle.zone_graph.specs.declared.route.RouteLeg.{RouteLeg}
use Rattle.zone_graph.specs.Graph.{Graph, end_of}
use Rattle.zone_graph.specs.Pour.{opposite_arc, room_after}
use Rattle.zone_graph.specs.Route.{IsIn, IsWay}
use Rattle.zone_graph.proofs.Arcs.{opposite-end, opposite-start}
use Rattle.cut_proof.proofs.ReachLaws.{room_before}
use Rattle.cut_proof.proofs.Ways.{way_onward, way_until}

-- two ways, one behind the other
way-joined : (graph : Graph) (room : Arc → ℕ) (from middle to : ℕ) (front back : List Arc) → IsWay graph room from front middle → IsWay graph room middle back to
    → IsWay graph room from (front ++ back) to
way-joined graph room from middle to [] back way more = subst (λ z. IsWay graph room z back to) (sym way) more
way-joined graph room from middle to (arc ∷ front) back way more =
    (way.0, way.1, way.2, way-joined graph room (end_of graph arc) middle to front back way.3 more)

-- from one zone a way leads to another one
abbrev pub Leads : Graph → (Arc → ℕ) → (from to : ℕ) → Type 0
Leads graph room from to = (arcs : List Arc) × IsWay graph room from arcs to

pub leads-after : (graph : Graph) (room : Arc → ℕ) (from to zone other : ℕ) (leg : RouteLeg) (arcs : List Arc) → IsWay graph room from leg.route to
    → IsWay graph (room_after room leg) zone arcs other → Leads graph room zone other ⊎ (Leads graph room zone to × Leads graph room from other)
leads-after graph room from to zone other leg [] own way = inl ([], way)
leads-after graph room from to zone other leg (arc ∷ arcs) own way =
    by (room_before room leg arc way.2) (leads-after graph room from to (end_of graph arc) other leg arcs own way.3)
  where
    by : (0 < room arc) ⊎ IsIn (opposite_arc arc) leg.route
        → Leads graph room (end_of graph arc) other ⊎ (Leads graph room (end_of graph arc) to × Leads graph room from other)
        → Leads graph room zone other ⊎ (Leads graph room zone to × Leads graph room from other)
    by (inl had) (inl rest) = inl (arc ∷ rest.0, (way.0, way.1, had, rest.1))
    by (inl had) (inr rest) = inr ((arc ∷ rest.0.0, (way.0, way.1, had, rest.0.1)), rest.1)
    by (inr used) rest =
        let on = way_onward graph room from to leg.route (opposite_arc arc) own used in
        let there : Leads graph room zone to = (on.0, subst (λ z. IsWay graph room z on.0 to) (opposite-end graph arc ∙ way.1) on.1) in
        let until = way_until graph room from to leg.route (opposite_arc arc) own used in
        let back : IsWay graph room from until.0 (end_of graph arc) = subst (IsWay graph room from until.0) (opposite-start graph arc) until.1 in
        inr (
          there,
          elim rest [
            | inl old ↦ (until.0 ++ old.0, way-joined graph room from (end_of graph arc) other until.0 old.0 back old.1)
            | inr both ↦ both.1
          ],
        )
