-- A leg over a shortest route that leaves room on each arc of it changes no distance and no best
-- route to its end, and none from its start: the opposite arcs, which gain room, lead away from its
-- end and back to its start.
use Rattle.std.proofs.Common.{◌≡◌, ◌∙◌, ◌+◌, ◌<◌, ◌≤◌, ◌⊎◌, inl, inr, ℕ, Bool, true, false, List, [], ◌∷◌, ◌++◌, length, Option, refl, sym, ap, subst, arith, append_assoc, append-nil, length-append}
use Rattle.zone_graph.specs.declared.route.Arc.{Arc}
use Rattle.zone_graph.specs.declared.route.RouteLeg.{RouteLeg}
use Rattle.zone_graph.specs.Graph.{Graph, HasArc, IsGraph, end_of, start_of}
use Rattle.zone_graph.specs.Pour.{lots_if, opposite_arc, room_after, uses}
use Rattle.zone_graph.specs.Route.{IsIn, IsWay}
use Rattle.zone_graph.proofs.Arcs.{IsIn-uses, opposite-end, opposite-start, opposite-twice}
use Rattle.cut_proof.specs.Distance.{AreDistances, directed_room, distance_at}
use Rattle.cut_proof.proofs.Nearest.{way_long, way_reached}
use Rattle.cut_proof.proofs.Reaching.{way_of_distance, way_turned}
use Rattle.cut_proof.proofs.ReachLaws.{room_before}
use Rattle.cut_proof.proofs.Ways.{way_longer}
use Rattle.route_choice.specs.Freshness.{IsShortestRoute, KeepsSearches, LeavesRoom, ShortLegsKeepSearches}
use Rattle.route_choice.proofs.Shortest.{same_best, shortest_way, way_join, way_over}

-- ---- the arcs that a leg uses

-- an arc that had room has room, where the leg leaves room on its route
still_room : (room : Arc → ℕ) (leg : RouteLeg) (arc : Arc) → LeavesRoom room leg → 0 < room arc → 0 < room_after room leg arc
still_room room leg arc leaves had = by (uses leg.route arc) refl
  where
    by : (b : Bool) → uses leg.route arc ≡ b → 0 < room_after room leg arc
    by true e = leaves arc (IsIn-uses leg.route arc e)
    by false e = let nothing = ap (λ b. lots_if b leg.lots) e in omega (arith, nothing, had)

still_way : (graph : Graph) (room : Arc → ℕ) (leg : RouteLeg) (from to : ℕ) (arcs : List Arc) → LeavesRoom room leg → IsWay graph room from arcs to
    → IsWay graph (room_after room leg) from arcs to
still_way graph room leg from to [] leaves way = way
still_way graph room leg from to (arc ∷ arcs) leaves way =
    (way.0, way.1, still_room room leg arc leaves way.2, still_way graph room leg (end_of graph arc) to arcs leaves way.3)

-- no way on from where an arc of a shortest route starts is shorter than the route's own
rest_is_shortest : (graph : Graph) (room : Arc → ℕ) (from to start : ℕ) (route front others : List Arc) (rest : ℕ) → IsShortestRoute graph room from to route
    → length route ≡ length front + (1 + rest) → IsWay graph room from front start → IsWay graph room start others to → 1 + rest ≤ length others
rest_is_shortest graph room from to start route front others rest s parts first way =
    let least = shortest_way graph room from to route (front ++ others) s (way_join graph room from start to front others first way) in
    omega (arith, least, parts, length-append front others)

-- and none to where it ends
front_is_shortest : (graph : Graph) (room : Arc → ℕ) (from to end : ℕ) (route others back : List Arc) (front : ℕ) → IsShortestRoute graph room from to route
    → length route ≡ front + (1 + length back) → IsWay graph room end back to → IsWay graph room from others end → front + 1 ≤ length others
front_is_shortest graph room from to end route others back front s parts then way =
    let least = shortest_way graph room from to route (others ++ back) s (way_join graph room from end to others back way then) in
    omega (arith, least, parts, length-append others back)

-- ---- routes

-- a way after the leg was there before it, or a shorter one was
abbrev IsNoShorter : Graph → (Arc → ℕ) → (from to : ℕ) → List Arc → Type 0
IsNoShorter graph room from to arcs =
    (before : List Arc) × IsWay graph room from before to × ((before ≡ arcs) ⊎ (length before < length arcs))

ways_to_end : (graph : Graph) (room : Arc → ℕ) (from to zone : ℕ) (leg : RouteLeg) (arcs : List Arc) → IsShortestRoute graph room from to leg.route
    → IsWay graph (room_after room leg) zone arcs to → IsNoShorter graph room zone to arcs
ways_to_end graph room from to zone leg [] s way = ([], way, inl refl)
ways_to_end graph room from to zone leg (arc ∷ arcs) s way =
    by (room_before room leg arc way.2) (ways_to_end graph room from to (end_of graph arc) leg arcs s way.3)
  where
    by : (0 < room arc) ⊎ IsIn (opposite_arc arc) leg.route → IsNoShorter graph room (end_of graph arc) to arcs → IsNoShorter graph room zone to (arc ∷ arcs)
    by (inl had) rest = (
      arc ∷ rest.0,
      (way.0, way.1, had, rest.1),
      elim rest.2 [ inl e ↦ inl (ap (λ later. arc ∷ later) e) | inr less ↦ inr (omega (arith, less)) ],
    )
    by (inr used) rest =
        let over = way_over graph room from to leg.route (opposite_arc arc) s.route.way used in
        let least = rest_is_shortest graph room from to (end_of graph arc) leg.route over.0 rest.0 (length over.1) s over.2.parts
        (subst (IsWay graph room from over.0) (opposite-start graph arc) over.2.first) rest.1 in
        let no_longer : length rest.0 ≤ length arcs = elim rest.2 [ inl e ↦ omega (arith, ap length e) | inr less ↦ omega (arith, less) ] in
        (over.1, subst (λ z. IsWay graph room z over.1 to) (opposite-end graph arc ∙ way.1) over.2.then, inr (omega (arith, least, no_longer)))

ways_from_start : (graph : Graph) (room : Arc → ℕ) (from to start zone : ℕ) (leg : RouteLeg) (front arcs : List Arc)
    → IsShortestRoute graph room from to leg.route
    → IsWay graph room from front start → IsWay graph (room_after room leg) start arcs zone → IsNoShorter graph room from zone (front ++ arcs)
ways_from_start graph room from to start zone leg front [] s first way = (front, subst (IsWay graph room from front) way first, inl (sym (append-nil front)))
ways_from_start graph room from to start zone leg front (arc ∷ arcs) s first way =
    by (room_before room leg arc way.2) (λ until there. ways_from_start graph room from to (end_of graph arc) zone leg until arcs s there way.3)
  where
    here : IsWay graph room from front (start_of graph arc)
    here = subst (IsWay graph room from front) (sym way.1) first

    by : (0 < room arc) ⊎ IsIn (opposite_arc arc) leg.route
        → ((until : List Arc) → IsWay graph room from until (end_of graph arc) → IsNoShorter graph room from zone (until ++ arcs))
        → IsNoShorter graph room from zone (front ++ arc ∷ arcs)
    by (inl had) onward =
        subst (IsNoShorter graph room from zone) (append_assoc front (arc ∷ []) arcs)
        (onward (front ++ arc ∷ []) (way_longer graph room from start front arc first way.0 way.1 had))
    by (inr used) onward =
        let over = way_over graph room from to leg.route (opposite_arc arc) s.route.way used in
        let least = front_is_shortest graph room from to (start_of graph arc) leg.route front over.1 (length over.0) s over.2.parts
        (subst (λ z. IsWay graph room z over.1 to) (opposite-end graph arc) over.2.then) here in
        let on = onward over.0 (subst (IsWay graph room from over.0) (opposite-start graph arc) over.2.first) in
        let no_longer : length on.0 ≤ length (over.0 ++ arcs) = elim on.2 [ inl e ↦ omega (arith, ap length e) | inr less ↦ omega (arith, less) ] in
        (on.0, on.1, inr (omega (arith, least, no_longer, length-append over.0 arcs, length-append front (arc ∷ arcs))))

-- of such ways
told : (graph : Graph) (room : Arc → ℕ) (from to : ℕ) (arcs : List Arc) → IsNoShorter graph room from to arcs
    → IsWay graph room from arcs to ⊎ ((short : List Arc) × IsWay graph room from short to × (length short < length arcs))
told graph room from to arcs before = elim before.2 [
  | inl e ↦ inl (subst (λ way. IsWay graph room from way to) e before.1)
  | inr less ↦ inr (before.0, before.1, less)
]

-- ---- distances

-- distances are the same over rooms where each arc still has room, and where none that has got room
-- leads nearer by more than one
distances_stay : (graph : Graph) (room after : Arc → ℕ) (to : ℕ) (distances : List (Option ℕ)) → ((arc : Arc) → 0 < room arc → 0 < after arc)
    → ((arc : Arc) → HasArc graph arc → 0 < after arc → distance_at distances (start_of graph arc) ≤ distance_at distances (end_of graph arc) + 1)
    → AreDistances graph room to distances → AreDistances graph after to distances
distances_stay graph room after to distances still falls a = record {
  places = a.places;
  home = a.home;
  alone = a.alone;
  short = a.short;
  falls = falls;
  nearer = λ zone some near. let step = a.nearer zone some near in (step.0, step.1, step.2, still step.0 step.3, step.4);
}

-- an arc of a shortest route leads nearer to its end
leads_to_end : (graph : Graph) (room : Arc → ℕ) (from to : ℕ) (route : List Arc) (distances : List (Option ℕ)) (arc : Arc)
    → IsShortestRoute graph room from to route
    → AreDistances graph room to distances → IsIn arc route → distance_at distances (end_of graph arc) < distance_at distances (start_of graph arc)
leads_to_end graph room from to route distances arc s a used =
    let over = way_over graph room from to route arc s.route.way used in
    let near = way_reached graph room to distances (start_of graph arc) (arc ∷ over.1) a (over.2.known, refl, over.2.some, over.2.then) in
    let way = way_of_distance graph room to distances (start_of graph arc) (distance_at distances (start_of graph arc)) a refl near in
    let least = rest_is_shortest graph room from to (start_of graph arc) route over.0 way.0 (length over.1) s over.2.parts over.2.first way.1 in
    let long = way_long graph room to distances (end_of graph arc) over.1 a over.2.then in
    omega (arith, least, way.2, long)

-- and farther from its start
leads_from_start : (graph : Graph) (room : Arc → ℕ) (from to : ℕ) (route : List Arc) (distances : List (Option ℕ)) (arc : Arc)
    → IsShortestRoute graph room from to route
    → AreDistances graph (directed_room room false) from distances → IsIn arc route → distance_at distances (start_of graph arc) < distance_at distances (end_of graph arc)
leads_from_start graph room from to route distances arc s a used =
    let over = way_over graph room from to route arc s.route.way used in
    let longer = way_longer graph room from (start_of graph arc) over.0 arc over.2.first over.2.known refl over.2.some in
    let turned = way_turned graph room (directed_room room false) from (end_of graph arc) (over.0 ++ arc ∷ []) turn longer in
    let near = way_reached graph (directed_room room false) from distances (end_of graph arc) turned.0 a turned.1 in
    let back = way_of_distance graph (directed_room room false) from distances (end_of graph arc) (distance_at distances (end_of graph arc)) a refl near in
    let way = way_turned graph (directed_room room false) room (end_of graph arc) from back.0 (λ x some. some) back.1 in
    let least = front_is_shortest graph room from to (end_of graph arc) route way.0 over.1 (length over.0) s over.2.parts over.2.then way.1 in
    let first = way_turned graph room (directed_room room false) from (start_of graph arc) over.0 turn over.2.first in
    let long = way_long graph (directed_room room false) from distances (start_of graph arc) first.0 a first.1 in
    omega (arith, least, way.2, back.2, long, first.2)
  where
    turn : (x : Arc) → 0 < room x → 0 < directed_room room false (opposite_arc x)
    turn x some = subst (λ (y : Arc). 0 < room y) (sym (opposite-twice x)) some

-- ---- the law

pub towards_end : (graph : Graph) (room : Arc → ℕ) (from to : ℕ) (leg : RouteLeg) → IsGraph graph → IsShortestRoute graph room from to leg.route
    → LeavesRoom room leg
    → KeepsSearches graph room (room_after room leg) to true
towards_end graph room from to leg is s leaves = record {
  distances = λ distances a. distances_stay graph room (room_after room leg) to distances (λ arc had. still_room room leg arc leaves had) (falls distances a) a;
  routes = λ other. same_best graph room (room_after room leg) other to is (λ arcs way. still_way graph room leg other to arcs leaves way)
      (λ arcs way. told graph room other to arcs (ways_to_end graph room from to other leg arcs s way));
}
  where
    falls : (distances : List (Option ℕ)) → AreDistances graph room to distances → (arc : Arc) → HasArc graph arc → 0 < room_after room leg arc
        → distance_at distances (start_of graph arc) ≤ distance_at distances (end_of graph arc) + 1
    falls distances a arc known some = elim (room_before room leg arc some) [
      | inl had ↦ a.falls arc known had
      | inr used ↦
          let less = leads_to_end graph room from to leg.route distances (opposite_arc arc) s a used in
          omega (arith, less, ap (distance_at distances) (opposite-start graph arc), ap (distance_at distances) (opposite-end graph arc))
    ]

pub from_start : (graph : Graph) (room : Arc → ℕ) (from to : ℕ) (leg : RouteLeg) → IsGraph graph → IsShortestRoute graph room from to leg.route
    → LeavesRoom room leg
    → KeepsSearches graph room (room_after room leg) from false
from_start graph room from to leg is s leaves = record {
  distances = λ distances a.
      distances_stay graph (directed_room room false) (directed_room (room_after room leg) false) from distances
      (λ arc had. still_room room leg (opposite_arc arc) leaves had) (falls distances a) a;
  routes = λ other. same_best graph room (room_after room leg) from other is (λ arcs way. still_way graph room leg from other arcs leaves way)
      (λ arcs way. told graph room from other arcs (ways_from_start graph room from to from other leg [] arcs s refl way));
}
  where
    falls : (distances : List (Option ℕ)) → AreDistances graph (directed_room room false) from distances → (arc : Arc) → HasArc graph arc
        → 0 < room_after room leg (opposite_arc arc) → distance_at distances (start_of graph arc) ≤ distance_at distances (end_of graph arc) + 1
    falls distances a arc known some = elim (room_before room leg (opposite_arc arc) some) [
      | inl had ↦ a.falls arc known had
      | inr used ↦
          let less = leads_from_start graph room from to leg.route distances arc s a (subst (λ (x : Arc). IsIn x leg.route) (opposite-twice arc) used) in
          omega (arith, less)
    ]

pub short_legs_keep : ShortLegsKeepSearches
short_legs_keep graph room from to leg is s leaves = (towards_end graph room from to leg is s leaves, from_start graph room from to leg is s leaves)
