-- What a tree of routes says of the rooms that it was made over, and of later ones.
use Rattle.std.proofs.Common.{◌≡◌, ◌∙◌, ◌<◌, inl, inr, ℕ, Bool, true, false, List, [], ◌∷◌, Option, Some, None, is_some, slice_index_or, refl, sym, ap, subst, arith, ltb-true}
use Rattle.std.specs.List.{list_all}
use Rattle.std.specs.Option.{option_map}
use Rattle.std.proofs.lemmas.Bool.{and_parts}
use Rattle.zone_graph.specs.declared.route.Arc.{Arc}
use Rattle.zone_graph.specs.declared.route.RouteLeg.{RouteLeg}
use Rattle.zone_graph.specs.Graph.{Graph, HasArc, HasZone, IsGraph}
use Rattle.zone_graph.specs.Pour.{room_after}
use Rattle.zone_graph.specs.Route.{IsIn, best_route}
use Rattle.zone_graph.proofs.BestRoute.{best_route-is}
use Rattle.zone_graph.proofs.Finding.{none_from}
use Rattle.cut_proof.specs.Distance.{AreDistances, arcs_of_distance, directed_room, distance_at}
use Rattle.cut_proof.specs.Cut.{reaches_in}
use Rattle.cut_proof.proofs.Reaching.{distance_tells}
use Rattle.cut_proof.proofs.ReachLaws.{reach_from_start, reach_to_end}
use Rattle.cut_proof.proofs.Ways.{way_has_arc}
use Rattle.route_choice.specs.Freshness.{FreshSearchesExclude, IsDirectedRoute, IsFresh, KeepsSearches, LeavesRoom, LegsKeepExclusion, StaysFresh, TellsReach, directed_route, has_room, is_known, is_reached, searched_route}
use Rattle.route_choice.specs.Tree.{Tree, route_along, told_route}
use Rattle.route_choice.proofs.Shortest.{best_is_shortest}
use Rattle.route_choice.proofs.Steady.{from_start, towards_end}

-- ---- reach

-- a tree that is fresh tells routes exactly to the zones that are reached
pub known_is_reached : (graph : Graph) (room : Arc → ℕ) (tree : Tree) (other : ℕ) → IsFresh graph room tree → is_known tree other ≡ is_reached graph room tree other
known_is_reached graph room tree other fresh = ap is_some (fresh.routes other)

pub fresh_excludes : FreshSearchesExclude
fresh_excludes graph room tree is fresh other unknown = sym (known_is_reached graph room tree other fresh) ∙ unknown

pub tells_reach : (tree : Tree) (other : ℕ) (answer : Bool) → answer ≡ is_known tree other → TellsReach tree other answer
tells_reach tree other answer e = record {
  exact = λ graph room is fresh. e ∙ known_is_reached graph room tree other fresh;
  excluded = λ graph room excludes no. excludes other (sym e ∙ no);
}

excluded_after : (graph : Graph) (room : Arc → ℕ) (zone start other : ℕ) (towards : Bool) (leg : RouteLeg) → IsGraph graph
    → IsDirectedRoute graph room zone start towards leg.route
    → is_some (directed_route graph room zone other towards) ≡ false → is_some (directed_route graph (room_after room leg) zone other towards) ≡ false
excluded_after graph room zone start other true leg is route apart = reach_to_end graph room start zone other leg is route apart
excluded_after graph room zone start other false leg is route apart = reach_from_start graph room zone start other leg is route apart

pub legs_keep_exclusion : LegsKeepExclusion
legs_keep_exclusion graph room tree start leg is route excludes other unknown =
    excluded_after graph room tree.zone start other tree.towards leg is route (excludes other unknown)

-- ---- routes

-- the best route between a zone and another one leads there
searched_is_directed : (graph : Graph) (room : Arc → ℕ) (zone other : ℕ) (towards : Bool) (route : List Arc) → IsGraph graph
    → directed_route graph room zone other towards ≡ Some route → IsDirectedRoute graph room zone other towards route
searched_is_directed graph room zone other true route is best = (best_route-is graph room other zone route is best).route
searched_is_directed graph room zone other false route is best = (best_route-is graph room zone other route is best).route

-- and its arcs are the graph's
directed_arcs : (graph : Graph) (room : Arc → ℕ) (zone other : ℕ) (towards : Bool) (route : List Arc) (arc : Arc)
    → IsDirectedRoute graph room zone other towards route
    → IsIn arc route → HasArc graph arc
directed_arcs graph room zone other true route arc r i = way_has_arc graph room other zone route arc r.way i
directed_arcs graph room zone other false route arc r i = way_has_arc graph room zone other route arc r.way i

pub searched_arcs : (graph : Graph) (room : Arc → ℕ) (tree : Tree) (other : ℕ) (route : List Arc) → IsGraph graph
    → searched_route graph room tree other ≡ Some route
    → (arc : Arc) → IsIn arc route → HasArc graph arc
searched_arcs graph room tree other route is best arc i =
    directed_arcs graph room tree.zone other tree.towards route arc (searched_is_directed graph room tree.zone other tree.towards route is best) i

-- the best routes, by a tree's zone and direction
pub searched_towards : (graph : Graph) (room : Arc → ℕ) (tree : Tree) (zone other : ℕ) → tree.zone ≡ zone → tree.towards ≡ true
    → searched_route graph room tree other ≡ best_route graph room other zone
searched_towards graph room tree zone other at e = ap (directed_route graph room tree.zone other) e ∙ ap (best_route graph room other) at

pub searched_from : (graph : Graph) (room : Arc → ℕ) (tree : Tree) (zone other : ℕ) → tree.zone ≡ zone → tree.towards ≡ false
    → searched_route graph room tree other ≡ best_route graph room zone other
searched_from graph room tree zone other at e = ap (directed_route graph room tree.zone other) e ∙ ap (λ from. best_route graph room from other) at

-- ---- freshness

in_direction : (graph : Graph) (room : Arc → ℕ) (zone other : ℕ) (towards : Bool)
    → reaches_in graph room other zone towards ≡ is_some (directed_route graph room zone other towards)
in_direction graph room zone other true = refl
in_direction graph room zone other false = refl

-- a tree with the distances, of which each route is the best one, is fresh
pub fresh_by_routes : (graph : Graph) (room : Arc → ℕ) (tree : Tree) → IsGraph graph → HasZone graph tree.zone
    → AreDistances graph (directed_room room tree.towards) tree.zone tree.distances
    → ((arcs other : ℕ) → distance_at tree.distances other ≡ arcs → arcs < 128 → searched_route graph room tree other ≡ Some (route_along tree.steps tree.towards arcs other))
    → IsFresh graph room tree
fresh_by_routes graph room tree is there a best = record {
  there = there;
  distances = a;
  routes = λ other. by other (slice_index_or tree.distances other None) refl;
}
  where
    tell : ℕ → Option ℕ → Option (List Arc)
    tell other far = option_map (λ arcs. route_along tree.steps tree.towards arcs other) far

    by : (other : ℕ) (far : Option ℕ) → slice_index_or tree.distances other None ≡ far → told_route tree other ≡ searched_route graph room tree other
    by other None e =
        let reach = distance_tells graph room tree.zone tree.towards tree.distances other is a ∙ in_direction graph room tree.zone other tree.towards in
        ap (tell other) e ∙ sym (none_from (searched_route graph room tree other) (sym reach ∙ ap is_some e))
    by other (Some far) e =
        let short = a.short other far e in
        ap (tell other) e ∙ sym (best far other (ap arcs_of_distance e) (omega (arith, short)))

-- what all pass each one passes
all_pass : {X : Type 0} (p : X → Bool) (x : X) (xs : List X) → list_all p xs ≡ true → IsIn x xs → p x ≡ true
all_pass p x [] all i = absurd i
all_pass p x (y ∷ xs) all i =
    let parts = and_parts (p y) (list_all p xs) all in
    elim i [ inl e ↦ ap p e ∙ parts.0 | inr j ↦ all_pass p x xs parts.1 j ]

-- the searches between a zone and the others stay the same after a leg over the best route of one of
-- them that leaves room
searches_kept : (graph : Graph) (room : Arc → ℕ) (zone other : ℕ) (towards : Bool) (leg : RouteLeg) → IsGraph graph → LeavesRoom room leg
    → directed_route graph room zone other towards ≡ Some leg.route → KeepsSearches graph room (room_after room leg) zone towards
searches_kept graph room zone other true leg is leaves best = towards_end graph room other zone leg is (best_is_shortest graph room other zone leg.route is best) leaves
searches_kept graph room zone other false leg is leaves best = from_start graph room zone other leg is (best_is_shortest graph room zone other leg.route is best) leaves

-- and so they do where each arc of the route still has room
pub searches_stay : (graph : Graph) (room after : Arc → ℕ) (zone other : ℕ) (towards : Bool) (route : List Arc) (lots : ℕ) → IsGraph graph
    → list_all (has_room after) route ≡ true → directed_route graph room zone other towards ≡ Some route
    → ((arc : Arc) → after arc ≡ room_after room (record { route = route; lots = lots }) arc)
    → KeepsSearches graph room after zone towards
searches_stay graph room after zone other towards route lots is all best over =
    let leg : RouteLeg = record { route = route; lots = lots } in
    let same : after ≡ room_after room leg = λ i. λ arc. over arc i in
    let leaves : LeavesRoom room leg = λ arc i. subst (λ n. 0 < n) (over arc) (ltb-true 0 (after arc) (all_pass (has_room after) arc route all i)) in
    subst (λ r. KeepsSearches graph room r zone towards) (sym same) (searches_kept graph room zone other towards leg is leaves best)

-- so then a tree that was fresh is so
pub stays_fresh : (tree : Tree) (after : Arc → ℕ) (route : List Arc) → list_all (has_room after) route ≡ true → StaysFresh tree after route
stays_fresh tree after route all graph room other lots is fresh best over =
    let kept = searches_stay graph room after tree.zone other tree.towards route lots is all best over in
    record {
      there = fresh.there;
      distances = kept.distances tree.distances fresh.distances;
      routes = λ zone. fresh.routes zone ∙ sym (kept.routes zone);
    }
