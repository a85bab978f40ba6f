-- What a leg does not change of which zones are reached, and that no room leads into the zones from
-- which a zone is reached.
use Rattle.std.proofs.Common.{◌≡◌, ◌∙◌, ◌<◌, ◌≤◌, ◌&&◌, ◌⊎◌, inl, inr, ℕ, Bool, true, false, not, List, [], ◌∷◌, ◌++◌, filter, refl, sym, ap, subst, arith}
use Rattle.std.proofs.lemmas.Bool.{cases_lt, true≢false}
use Rattle.std.specs.List.{range_with_len}
use Rattle.zone_graph.specs.declared.route.Arc.{Arc}
use Rattle.zone_graph.specs.declared.route.RouteLeg.{RouteLeg}
use Rattle.zone_graph.specs.Graph.{Graph, HasZone, IsGraph, arcs_of, end_of, start_of, zone_count}
use Rattle.zone_graph.specs.Pour.{lots_if, opposite_arc, room_after, uses}
use Rattle.zone_graph.specs.Reach.{enters, leaves, reaches, zones_beyond, zones_towards}
use Rattle.zone_graph.specs.Route.{IsIn, IsWay, has}
use Rattle.zone_graph.proofs.BestRoute.{reaches-route, route-reaches}
use Rattle.zone_graph.proofs.Membership.{IsIn-filter, IsIn-has, IsIn-range, from_filter, has-IsIn}
use Rattle.zone_graph.proofs.Routes.{end_within, from_arcs_of}
use Rattle.zone_graph.proofs.Arcs.{IsIn-uses, opposite-start, opposite-end}
use Rattle.zone_graph.proofs.GridLemmas.{start_within}
use Rattle.cut_proof.specs.Cut.{NoRoomEntersTheZonesTowards, NoRoomLeavesTheZonesBeyond, ReachFromAStartDoesNotGrow, ReachToAnEndDoesNotGrow}
use Rattle.cut_proof.proofs.ArcSums.{sum_nothing}
use Rattle.cut_proof.proofs.Ways.{way_has_route, way_longer, way_onward, way_until}

-- a zone reaches the end of each way from it
pub reaches-way : (graph : Graph) (room : Arc → ℕ) (from to : ℕ) (arcs : List Arc) → IsGraph graph → IsWay graph room from arcs to
    → reaches graph room from to ≡ true
reaches-way graph room from to arcs is way =
    let r = way_has_route graph room from to arcs way in reaches-route graph room from to r.0 is r.1

pub way-reaches : (graph : Graph) (room : Arc → ℕ) (from to : ℕ) → IsGraph graph → reaches graph room from to ≡ true
    → (arcs : List Arc) × IsWay graph room from arcs to
way-reaches graph room from to is there = let r = route-reaches graph room from to is there in (r.0, r.1.way)

-- an arc that has room after a leg had room before it, or the leg has used the opposite arc
pub room_before : (room : Arc → ℕ) (leg : RouteLeg) (arc : Arc) → 0 < room_after room leg arc → (0 < room arc) ⊎ IsIn (opposite_arc arc) leg.route
room_before room leg arc some = by (cases_lt 0 (room arc))
  where
    used : (b : Bool) → uses leg.route (opposite_arc arc) ≡ b → room arc ≤ 0 → IsIn (opposite_arc arc) leg.route
    used true e none = IsIn-uses leg.route (opposite_arc arc) e
    used false e none =
        let nothing = ap (λ b. lots_if b leg.lots) e in
        absurd (omega (arith, nothing, none, some))

    by : (0 < room arc) ⊎ (room arc ≤ 0) → (0 < room arc) ⊎ IsIn (opposite_arc arc) leg.route
    by (inl had) = inl had
    by (inr none) = inr (used (uses leg.route (opposite_arc arc)) refl none)

-- a way after a leg that leads to where the leg ends was there before it: where it uses an arc
-- opposite to one of the leg's, the leg's own route leads on
way_to_end : (graph : Graph) (room : Arc → ℕ) (from to zone : ℕ) (leg : RouteLeg) (arcs : List Arc) → IsWay graph room from leg.route to
    → IsWay graph (room_after room leg) zone arcs to → (before : List Arc) × IsWay graph room zone before to
way_to_end graph room from to zone leg [] own way = ([], way)
way_to_end graph room from to zone leg (arc ∷ arcs) own way =
    by (room_before room leg arc way.2) (way_to_end graph room from to (end_of graph arc) leg arcs own way.3)
  where
    by : (0 < room arc) ⊎ IsIn (opposite_arc arc) leg.route → (rest : List Arc) × IsWay graph room (end_of graph arc) rest to
        → (before : List Arc) × IsWay graph room zone before to
    by (inl had) rest = (arc ∷ rest.0, (way.0, way.1, had, rest.1))
    by (inr used) rest =
        let on = way_onward graph room from to leg.route (opposite_arc arc) own used in
        (on.0, subst (λ z. IsWay graph room z on.0 to) (opposite-end graph arc ∙ way.1) on.1)

-- a way after a leg that leads from where the leg starts was there before it
way_from_start : (graph : Graph) (room : Arc → ℕ) (from to start zone : ℕ) (leg : RouteLeg) (front arcs : List Arc) → IsWay graph room from leg.route to
    → IsWay graph room from front start → IsWay graph (room_after room leg) start arcs zone → (before : List Arc) × IsWay graph room from before zone
way_from_start graph room from to start zone leg front [] own first way = (front, subst (IsWay graph room from front) way first)
way_from_start graph room from to start zone leg front (arc ∷ arcs) own first way =
    let there = by (room_before room leg arc way.2) in
    way_from_start graph room from to (end_of graph arc) zone leg there.0 arcs own there.1 way.3
  where
    by : (0 < room arc) ⊎ IsIn (opposite_arc arc) leg.route → (before : List Arc) × IsWay graph room from before (end_of graph arc)
    by (inl had) = (front ++ arc ∷ [], way_longer graph room from start front arc first way.0 way.1 had)
    by (inr used) =
        let until = way_until graph room from to leg.route (opposite_arc arc) own used in
        (until.0, subst (IsWay graph room from until.0) (opposite-start graph arc) until.1)

pub reach_to_end : ReachToAnEndDoesNotGrow
reach_to_end graph room from to zone leg is own apart = by (reaches graph (room_after room leg) zone to) refl
  where
    by : (b : Bool) → reaches graph (room_after room leg) zone to ≡ b → reaches graph (room_after room leg) zone to ≡ false
    by false e = e
    by true e =
        let after = way-reaches graph (room_after room leg) zone to is e in
        let before = way_to_end graph room from to zone leg after.0 own.way after.1 in
        absurd (true≢false (sym (reaches-way graph room zone to before.0 is before.1) ∙ apart))

pub reach_from_start : ReachFromAStartDoesNotGrow
reach_from_start graph room from to zone leg is own apart = by (reaches graph (room_after room leg) from zone) refl
  where
    by : (b : Bool) → reaches graph (room_after room leg) from zone ≡ b → reaches graph (room_after room leg) from zone ≡ false
    by false e = e
    by true e =
        let after = way-reaches graph (room_after room leg) from zone is e in
        let before = way_from_start graph room from to from zone leg [] after.0 own.way refl after.1 in
        absurd (true≢false (sym (reaches-way graph room from zone before.0 is before.1) ∙ apart))

-- ---- the zones towards a zone, and those beyond it

-- a zone is in the set towards another one exactly where it is the graph's and reaches that one
pub has-towards : (graph : Graph) (room : Arc → ℕ) (zone other : ℕ) → HasZone graph other → reaches graph room other zone ≡ true
    → has other (zones_towards graph room zone) ≡ true
has-towards graph room zone other known there =
    has-IsIn other (zones_towards graph room zone)
    (IsIn-filter (λ z. reaches graph room z zone) other (range_with_len 0 (zone_count graph))
    (IsIn-range other 0 (zone_count graph) (omega arith) (omega (arith, known))) there)

pub towards-has : (graph : Graph) (room : Arc → ℕ) (zone other : ℕ) → has other (zones_towards graph room zone) ≡ true → reaches graph room other zone ≡ true
towards-has graph room zone other there =
    (from_filter (λ z. reaches graph room z zone) other (range_with_len 0 (zone_count graph)) (IsIn-has other (zones_towards graph room zone) there)).1

pub has-beyond : (graph : Graph) (room : Arc → ℕ) (zone other : ℕ) → HasZone graph other → reaches graph room zone other ≡ true
    → has other (zones_beyond graph room zone) ≡ true
has-beyond graph room zone other known there =
    has-IsIn other (zones_beyond graph room zone)
    (IsIn-filter (λ z. reaches graph room zone z) other (range_with_len 0 (zone_count graph))
    (IsIn-range other 0 (zone_count graph) (omega arith) (omega (arith, known))) there)

pub beyond-has : (graph : Graph) (room : Arc → ℕ) (zone other : ℕ) → has other (zones_beyond graph room zone) ≡ true → reaches graph room zone other ≡ true
beyond-has graph room zone other there =
    (from_filter (λ z. reaches graph room zone z) other (range_with_len 0 (zone_count graph)) (IsIn-has other (zones_beyond graph room zone) there)).1

-- of an arc that enters or leaves
outside_inside : (a b : Bool) → (not a && b) ≡ true → (a ≡ false) × (b ≡ true)
outside_inside true b e = absurd (true≢false (sym e))
outside_inside false b e = (refl, e)

inside_outside : (a b : Bool) → (a && not b) ≡ true → (a ≡ true) × (b ≡ false)
inside_outside true true e = absurd (true≢false (sym e))
inside_outside true false e = (refl, refl)
inside_outside false b e = absurd (true≢false (sym e))

pub no_room_enters : NoRoomEntersTheZonesTowards
no_room_enters graph room zone is = sum_nothing room (filter (enters graph (zones_towards graph room zone)) (arcs_of graph)) none
  where
    none : (arc : Arc) → IsIn arc (filter (enters graph (zones_towards graph room zone)) (arcs_of graph)) → room arc ≡ 0
    none arc i = by (cases_lt 0 (room arc))
      where
        by : (0 < room arc) ⊎ (room arc ≤ 0) → room arc ≡ 0
        by (inr least) = omega (arith, least)
        by (inl some) =
            let found = from_filter (enters graph (zones_towards graph room zone)) arc (arcs_of graph) i in
            let known = from_arcs_of graph arc found.0 in
            let ends = outside_inside (has (start_of graph arc) (zones_towards graph room zone)) (has (end_of graph arc) (zones_towards graph room zone)) found.1 in
            let on = way-reaches graph room (end_of graph arc) zone is (towards-has graph room zone (end_of graph arc) ends.1) in
            let there = reaches-way graph room (start_of graph arc) zone (arc ∷ on.0) is (known, refl, some, on.1) in
            absurd (true≢false (sym (has-towards graph room zone (start_of graph arc) (start_within graph arc is known) there) ∙ ends.0))

pub no_room_leaves : NoRoomLeavesTheZonesBeyond
no_room_leaves graph room zone is = sum_nothing room (filter (leaves graph (zones_beyond graph room zone)) (arcs_of graph)) none
  where
    none : (arc : Arc) → IsIn arc (filter (leaves graph (zones_beyond graph room zone)) (arcs_of graph)) → room arc ≡ 0
    none arc i = by (cases_lt 0 (room arc))
      where
        by : (0 < room arc) ⊎ (room arc ≤ 0) → room arc ≡ 0
        by (inr least) = omega (arith, least)
        by (inl some) =
            let found = from_filter (leaves graph (zones_beyond graph room zone)) arc (arcs_of graph) i in
            let known = from_arcs_of graph arc found.0 in
            let ends = inside_outside (has (start_of graph arc) (zones_beyond graph room zone)) (has (end_of graph arc) (zones_beyond graph room zone)) found.1 in
            let until = way-reaches graph room zone (start_of graph arc) is (beyond-has graph room zone (start_of graph arc) ends.0) in
            let there = reaches-way graph room zone (end_of graph arc) (until.0 ++ arc ∷ []) is
            (way_longer graph room zone (start_of graph arc) until.0 arc until.1 known refl some) in
            absurd (true≢false (sym (has-beyond graph room zone (end_of graph arc) (end_within graph arc is known) there) ∙ ends.1))
