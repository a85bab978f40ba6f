-- A tree of which each step is the one of the least border that leads to a nearer zone tells the best
-- routes to its zone.
use Rattle.std.proofs.Common.{◌≡◌, ◌≢◌, ◌∙◌, ◌+◌, ◌<◌, ◌==◌, ◌⊎◌, inl, inr, ℕ, zero, suc, Bool, true, List, Option, Some, None, set, nat_lt, unwrap_or, refl, sym, ap, subst, arith, get_or-set_same, get_or-set_other, eqb-true, eq-eqb, ltb-true, lt-ltb}
use Rattle.std.proofs.lemmas.Bool.{and_from, and_parts, cases_eq, cases_lt}
use Rattle.std.proofs.lemmas.List.{length-set}
use Rattle.zone_graph.specs.declared.route.Arc.{Arc}
use Rattle.zone_graph.specs.declared.grid.Neighbour.{Neighbour}
use Rattle.zone_graph.specs.Graph.{Graph, HasArc, HasZone, IsGraph, end_of, start_of, zone_count}
use Rattle.zone_graph.specs.Grid.{IsGrid, neighbour_over, neighbours_of}
use Rattle.zone_graph.specs.Pour.{opposite_arc}
use Rattle.zone_graph.specs.Route.{IsIn}
use Rattle.zone_graph.proofs.Arcs.{opposite-end}
use Rattle.zone_graph.proofs.Finding.{find-IsIn, from_find}
use Rattle.zone_graph.proofs.Routes.{end_within}
use Rattle.cut_proof.specs.Distance.{AreDistances, IsDescent, IsLeastStep, distance_at}
use Rattle.cut_proof.proofs.Nearest.{descent_is_best}
use Rattle.cut_proof.proofs.Neighbours.{IsNeighbour, neighbour_by, neighbour_in}
use Rattle.route_choice.specs.Freshness.{IsFresh}
use Rattle.route_choice.specs.Search.{AreTaken, leads_nearer, least_step, no_step, step_at}
use Rattle.route_choice.specs.Tree.{route_along}
use Rattle.route_choice.proofs.Fresh.{fresh_by_routes}
use Rattle.route_choice.proofs.Rising.{first_neighbour_least}

-- each zone on the way has the step of the least border that leads to a nearer one
abbrev pub AreLeastSteps : Graph → (Arc → ℕ) → List (Option ℕ) → List Neighbour → Type 0
AreLeastSteps graph room distances steps =
    (zone : ℕ) → 0 < distance_at distances zone → distance_at distances zone < 128
    → IsLeastStep graph room distances zone (step_at steps zone).arc × (end_of graph (step_at steps zone).arc ≡ (step_at steps zone).zone)

along_descends : (graph : Graph) (room : Arc → ℕ) (distances : List (Option ℕ)) (steps : List Neighbour) → AreLeastSteps graph room distances steps
    → (arcs zone : ℕ) → distance_at distances zone ≡ arcs → arcs < 128 → IsDescent graph room distances zone (route_along steps true arcs zone)
along_descends graph room distances steps least zero zone here near = here
along_descends graph room distances steps least (suc arcs) zone here near =
    let step = least zone (omega (arith, here)) (omega (arith, here, near)) in
    let nearer : distance_at distances (step_at steps zone).zone ≡ arcs = omega (arith, here, step.0.falls, ap (distance_at distances) step.1) in (
      step.0,
      subst (λ z. IsDescent graph room distances z (route_along steps true arcs (step_at steps zone).zone)) (sym step.1)
          (along_descends graph room distances steps least arcs (step_at steps zone).zone nearer (omega (arith, near))),
    )

-- one more zone takes its step
pub takes_one : (graph : Graph) (room : Arc → ℕ) (distances : List (Option ℕ)) (steps : List Neighbour) (zone : ℕ) → IsGrid graph → HasZone graph zone
    → AreTaken graph room distances steps zone
    → AreTaken graph room distances (set steps zone (unwrap_or (least_step graph room distances zone) (step_at steps zone))) (zone + 1)
takes_one graph room distances steps zone grid there t = record {
  places = length-set steps zone new ∙ t.places;
  within = λ other. in_within other (cases_eq other zone);
  taken = λ other step less e. in_taken other step less e (cases_eq other zone);
}
  where
    new : Neighbour
    new = unwrap_or (least_step graph room distances zone) (step_at steps zone)

    here : step_at (set steps zone new) zone ≡ new
    here = get_or-set_same steps zone new no_step (let places = t.places in omega (arith, there, places, grid.few_zones))

    kept : (other : ℕ) → other ≢ zone → step_at (set steps zone new) other ≡ step_at steps other
    kept other apart = get_or-set_other steps zone other new no_step apart

    new_within : (found : Option Neighbour) → least_step graph room distances zone ≡ found → (unwrap_or found (step_at steps zone)).zone < 64
    new_within None e = t.within zone
    new_within (Some step) e =
        let passes = from_find (leads_nearer room distances (distance_at distances zone)) step (neighbours_of graph zone) e in
        let n = neighbour_in graph zone step grid.is_graph passes.0 in
        omega (arith, n.there, grid.few_zones)

    in_within : (other : ℕ) → (other ≡ zone) ⊎ (other ≢ zone) → (step_at (set steps zone new) other).zone < 64
    in_within other (inl e) = subst (λ (n : Neighbour). n.zone < 64) (sym (ap (step_at (set steps zone new)) e ∙ here)) (new_within (least_step graph room distances zone) refl)
    in_within other (inr apart) = subst (λ (n : Neighbour). n.zone < 64) (sym (kept other apart)) (t.within other)

    before : (other : ℕ) → other < zone + 1 → other ≢ zone → other < zone
    before other less apart = elim (cases_lt other zone) [ inl lower ↦ lower | inr least ↦ absurd (apart (omega (arith, less, least))) ]

    in_taken : (other : ℕ) (step : Neighbour) → other < zone + 1 → least_step graph room distances other ≡ Some step → (other ≡ zone) ⊎ (other ≢ zone)
        → step_at (set steps zone new) other ≡ step
    in_taken other step less e (inl same) =
        ap (step_at (set steps zone new)) same ∙ here ∙ ap (λ o. unwrap_or o (step_at steps zone)) (ap (least_step graph room distances) (sym same) ∙ e)
    in_taken other step less e (inr apart) = kept other apart ∙ t.taken other step (before other less apart) e

-- the steps that all zones have taken are the least ones
least_of_taken : (graph : Graph) (room : Arc → ℕ) (to : ℕ) (distances : List (Option ℕ)) (steps : List Neighbour) → IsGraph graph
    → AreDistances graph room to distances → AreTaken graph room distances steps (zone_count graph) → AreLeastSteps graph room distances steps
least_of_taken graph room to distances steps is a t zone positive near =
    subst (λ (n : Neighbour). IsLeastStep graph room distances zone n.arc × (end_of graph n.arc ≡ n.zone)) (sym (t.taken zone first.0 there first.1)) (least, n.end)
  where
    p : Neighbour → Bool
    p = leads_nearer room distances (distance_at distances zone)

    passes_by : (arc : Arc) → 0 < room arc → distance_at distances zone ≡ distance_at distances (end_of graph arc) + 1 → p (neighbour_over graph arc) ≡ true
    passes_by arc some falls =
        and_from (distance_at distances (end_of graph arc) + 1 == distance_at distances zone) (nat_lt 0 (room arc))
        (eq-eqb (distance_at distances (end_of graph arc) + 1) (distance_at distances zone) (sym falls)) (lt-ltb 0 (room arc) some)

    nearer : (arc : Arc) × HasArc graph arc × (start_of graph arc ≡ zone) × (0 < room arc) × (distance_at distances zone ≡ distance_at distances (end_of graph arc) + 1)
    nearer = a.nearer zone positive near

    first : (step : Neighbour) × (least_step graph room distances zone ≡ Some step)
    first = find-IsIn p (neighbours_of graph zone) (neighbour_over graph nearer.0) (neighbour_by graph zone nearer.0 nearer.1 nearer.2) (passes_by nearer.0 nearer.3 nearer.4)

    there : HasZone graph zone
    there = subst (HasZone graph) (opposite-end graph nearer.0 ∙ nearer.2) (end_within graph (opposite_arc nearer.0) is nearer.1)

    passes : IsIn first.0 (neighbours_of graph zone) × (p first.0 ≡ true)
    passes = from_find p first.0 (neighbours_of graph zone) first.1

    n : IsNeighbour graph zone first.0
    n = neighbour_in graph zone first.0 is passes.0

    both : ((distance_at distances first.0.zone + 1 == distance_at distances zone) ≡ true) × (nat_lt 0 (room first.0.arc) ≡ true)
    both = and_parts (distance_at distances first.0.zone + 1 == distance_at distances zone) (nat_lt 0 (room first.0.arc)) passes.1

    least : IsLeastStep graph room distances zone first.0.arc
    least = record {
      known = n.known;
      start = n.start;
      has_room = ltb-true 0 (room first.0.arc) both.1;
      falls = sym (eqb-true (distance_at distances first.0.zone + 1) (distance_at distances zone) both.0) ∙ ap (λ z. distance_at distances z + 1) (sym n.end);
      least = λ other known start some falls.
          first_neighbour_least graph zone p first.0 is first.1 (neighbour_over graph other) (neighbour_by graph zone other known start) (passes_by other some falls);
    }

pub towards_fresh : (graph : Graph) (room : Arc → ℕ) (to : ℕ) (distances : List (Option ℕ)) (steps : List Neighbour) → IsGraph graph → HasZone graph to
    → AreDistances graph room to distances → AreTaken graph room distances steps (zone_count graph)
    → IsFresh graph room (record { zone = to; towards = true; distances = distances; steps = steps })
towards_fresh graph room to distances steps is there a t =
    fresh_by_routes graph room (record { zone = to; towards = true; distances = distances; steps = steps }) is there a (λ arcs other here near.
    descent_is_best graph room other to distances (route_along steps true arcs other) is a (along_descends graph room distances steps (least_of_taken graph room to distances steps is a t) arcs other here near))
