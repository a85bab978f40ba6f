-- The search that goes out from a zone: what its steps are at each time, and that they are the first
-- ones at the end. Of one for the routes to the zone each arc stands for its opposite.
use Rattle.std.proofs.Common.{◌≡◌, ◌≢◌, ◌∙◌, ◌+◌, ◌<◌, ◌≤◌, ◌⊎◌, inl, inr, ℕ, zero, suc, Bool, true, false, not, List, length, get_or, set, replicate, Option, Some, None, is_none, is_some, ◌&&◌, nat_lt, if◌then◌else◌, refl, sym, ap, subst, arith, get_or-set_same, get_or-set_other, ltb-false, ltb-true}
use Rattle.std.proofs.lemmas.Bool.{cases_eq, cases_lt, true≢false}
use Rattle.std.proofs.lemmas.List.{length-set}
use Rattle.zone_graph.specs.declared.route.Arc.{Arc}
use Rattle.zone_graph.specs.declared.grid.Neighbour.{Neighbour}
use Rattle.zone_graph.specs.Graph.{Graph, HasArc, HasZone, end_of, start_of, zone_count}
use Rattle.zone_graph.specs.Grid.{IsGrid, neighbours_of}
use Rattle.zone_graph.specs.Pour.{opposite_arc}
use Rattle.zone_graph.proofs.Arcs.{opposite-end, opposite-start, opposite-twice}
use Rattle.zone_graph.proofs.Places.{at_any}
use Rattle.cut_proof.specs.Distance.{AreDistances, arcs_of_distance, directed_room, distance_at}
use Rattle.cut_proof.proofs.Neighbours.{IsNeighbour, neighbour_at}
use Rattle.cut_proof.proofs.Searches.{IsReady, IsVisiting, at_found, at_others, spaces_in, started, visit_begins, visit_ends, visit_goes_on, visit_skips}
use Rattle.route_choice.specs.declared.search.Branches.{Branches}
use Rattle.route_choice.specs.declared.search.Queue.{Queue}
use Rattle.route_choice.specs.Freshness.{IsFound, IsFresh}
use Rattle.route_choice.specs.Search.{Search, begun, first_met, found, no_step, search_over, step_at}
use Rattle.route_choice.specs.Tree.{Tree, tree_of}
use Rattle.route_choice.proofs.AllFound.{search_done}
use Rattle.route_choice.proofs.FirstSteps.{AreFirstSteps, IsBefore, IsEarlierStep, IsStepFrom, from_fresh}
use Rattle.route_choice.proofs.Rising.{rising_neighbours}

-- a zone is one of the first so many that were found
abbrev pub IsAmong : (zones : List ℕ) → (next zone : ℕ) → Type 0
IsAmong zones next zone = (i : ℕ) × (i < next) × (get_or zones i 0 ≡ zone)

-- the steps of the zones that are found lead there from nearer ones, each from the first that has
-- been visited, and they are in the order in which the zones were found
pub record AreStepsFrom (graph : Graph) (room : Arc → ℕ) (search : Search) (next : ℕ) : Type 0 where
  pub step_places : length search.steps ≡ 64
  pub within : (zone : ℕ) → (step_at search.steps zone).zone < 64
  pub steps_from : (zone : ℕ) → 0 < distance_at search.distances zone → distance_at search.distances zone < 128
      → IsStepFrom graph room search.distances zone (step_at search.steps zone)
  pub later : (i : ℕ) → 0 < i → i < search.count → 0 < distance_at search.distances (get_or search.zones i 0)
  pub ordered : (i j : ℕ) → 0 < i → i < j → j < search.count
      → IsEarlierStep search.zones search.count (step_at search.steps (get_or search.zones i 0)) (step_at search.steps (get_or search.zones j 0))
  pub first : (arc : Arc) → HasArc graph arc → 0 < room arc → IsAmong search.zones next (start_of graph arc) → distance_at search.distances (end_of graph arc) < 128
      → distance_at search.distances (end_of graph arc) ≡ distance_at search.distances (start_of graph arc) + 1
      → IsBefore search.zones search.count (step_at search.steps (end_of graph arc)).zone (start_of graph arc) ⊎ ((step_at search.steps (end_of graph arc)).zone ≡ start_of graph arc)

-- a step is from a zone that was visited before, or from the one that is being visited over a border
-- that comes before those which are still to be met
abbrev pub IsMet : (zones : List ℕ) → (next zone : ℕ) → List Neighbour → (index : ℕ) → Neighbour → Type 0
IsMet zones next zone neighbours index step =
    IsAmong zones next step.zone ⊎ ((step.zone ≡ zone) × ((i : ℕ) → index ≤ i → i < length neighbours → step.arc.border < (get_or neighbours i no_step).arc.border))

-- a search from a zone before it visits another one
pub record IsReadyFrom (graph : Graph) (room : Arc → ℕ) (from : ℕ) (search : Search) (next : ℕ) : Type 0 where
  pub ready : IsReady graph (directed_room room false) from search.distances search.zones search.count next
  pub steps : AreStepsFrom graph room search next
  pub visited : (zone : ℕ) → 0 < distance_at search.distances zone → distance_at search.distances zone < 128 → IsAmong search.zones next (step_at search.steps zone).zone

-- and while it visits one
pub record IsVisitingFrom (graph : Graph) (room : Arc → ℕ) (from : ℕ) (search : Search) (next zone distance : ℕ) (neighbours : List Neighbour) (index : ℕ) : Type 0 where
  pub visiting : IsVisiting graph (directed_room room false) from search.distances search.zones search.count next zone distance neighbours index
  pub steps : AreStepsFrom graph room search next
  pub met : (zone' : ℕ) → 0 < distance_at search.distances zone' → distance_at search.distances zone' < 128
      → IsMet search.zones next zone neighbours index (step_at search.steps zone')

-- a visit begins
pub from_begins : (graph : Graph) (room : Arc → ℕ) (from : ℕ) (search : Search) (next zone distance : ℕ) (neighbours : List Neighbour)
    → IsReadyFrom graph room from search next → next < search.count → get_or search.zones next 0 ≡ zone → distance_at search.distances zone + 1 ≡ distance
    → IsVisitingFrom graph room from search next zone distance neighbours 0
from_begins graph room from search next zone distance neighbours r behind head farther = record {
  visiting = visit_begins graph (directed_room room false) from search.distances search.zones search.count next zone distance neighbours r.ready behind head farther;
  steps = r.steps;
  met = λ other positive near. inl (r.visited other positive near);
}

-- and ends
pub from_ends : (graph : Graph) (room : Arc → ℕ) (from : ℕ) (search : Search) (next zone distance : ℕ) (neighbours : List Neighbour) (index : ℕ)
    → neighbours ≡ neighbours_of graph zone → length neighbours ≤ index
    → IsVisitingFrom graph room from search next zone distance neighbours index → IsReadyFrom graph room from search (next + 1)
from_ends graph room from search next zone distance neighbours index all past v = record {
  ready = visit_ends graph (directed_room room false) from search.distances search.zones search.count next zone distance neighbours index all past v.visiting;
  steps = record {
    step_places = v.steps.step_places;
    within = v.steps.within;
    steps_from = v.steps.steps_from;
    later = v.steps.later;
    ordered = v.steps.ordered;
    first = λ arc known some among near rise. first arc known some among.0 among.1 among.2 near rise (cases_lt among.0 next);
  };
  visited = λ other positive near. elim (v.met other positive near) [
    | inl among ↦ (among.0, omega (arith, among.1), among.2)
    | inr here ↦ (next, omega arith, v.visiting.head ∙ sym here.0)
  ];
}
  where
    first : (arc : Arc) → HasArc graph arc → 0 < room arc → (i : ℕ) → i < next + 1 → get_or search.zones i 0 ≡ start_of graph arc
        → distance_at search.distances (end_of graph arc) < 128
        → distance_at search.distances (end_of graph arc) ≡ distance_at search.distances (start_of graph arc) + 1 → (i < next) ⊎ (next ≤ i)
        → IsBefore search.zones search.count (step_at search.steps (end_of graph arc)).zone (start_of graph arc) ⊎ ((step_at search.steps (end_of graph arc)).zone ≡ start_of graph arc)
    first arc known some i most at near rise (inl less) = v.steps.first arc known some (i, less, at) near rise
    first arc known some i most at near rise (inr least) =
        let place : i ≡ next = omega (arith, least, most) in
        let here : get_or search.zones next 0 ≡ start_of graph arc = ap (λ k. get_or search.zones k 0) (sym place) ∙ at in
        elim (v.met (end_of graph arc) (omega (arith, rise)) near) [
          | inl among ↦ inl (among.0, next, among.1, v.visiting.behind, among.2, here)
          | inr step ↦ inr (step.0 ∙ sym v.visiting.head ∙ here)
        ]

-- a neighbour is passed over
pub from_skips : (graph : Graph) (room : Arc → ℕ) (from : ℕ) (search : Search) (next zone distance : ℕ) (neighbours : List Neighbour) (index : ℕ) → index < length neighbours
    → IsVisitingFrom graph room from search next zone distance neighbours index
    → (room (get_or neighbours index no_step).arc ≤ 0) ⊎ (is_some (get_or search.distances (get_or neighbours index no_step).zone None) ≡ true)
    → IsVisitingFrom graph room from search next zone distance neighbours (index + 1)
from_skips graph room from search next zone distance neighbours index within v none = record {
  visiting = visit_skips graph (directed_room room false) from search.distances search.zones search.count next zone distance neighbours index neighbour
      (λ d. at_any neighbours index d no_step within) v.visiting (turned none);
  steps = v.steps;
  met = λ other positive near. elim (v.met other positive near) [
    | inl among ↦ inl among
    | inr here ↦ inr (here.0, λ i least most. here.1 i (omega (arith, least)) most)
  ];
}
  where
    neighbour : Neighbour
    neighbour = get_or neighbours index no_step

    turned : (room neighbour.arc ≤ 0) ⊎ (is_some (get_or search.distances neighbour.zone None) ≡ true)
        → (room (opposite_arc (opposite_arc neighbour.arc)) ≤ 0) ⊎ (is_some (get_or search.distances neighbour.zone None) ≡ true)
    turned (inl most) = inl (subst (λ (a : Arc). room a ≤ 0) (sym (opposite-twice neighbour.arc)) most)
    turned (inr some) = inr some

-- a neighbour is found
pub from_finds : (graph : Graph) (room : Arc → ℕ) (from : ℕ) (search : Search) (next zone distance : ℕ) (neighbours : List Neighbour) (index : ℕ)
    → IsGrid graph → neighbours ≡ neighbours_of graph zone → index < length neighbours → zone < 64
    → IsVisitingFrom graph room from search next zone distance neighbours index
    → 0 < room (get_or neighbours index no_step).arc → get_or search.distances (get_or neighbours index no_step).zone None ≡ None
    → IsVisitingFrom graph room from (found search (get_or neighbours index no_step).zone distance (record { arc = (get_or neighbours index no_step).arc; zone = zone })) next zone distance neighbours (index + 1)
from_finds graph room from search next zone distance neighbours index grid all within low v some free = record {
  visiting = visit_goes_on graph (directed_room room false) from search.distances distances' search.zones zones'
      search.count (search.count + 1) next zone distance neighbours index no_step grid all within v.visiting
      (subst (λ (a : Arc). 0 < room a) (sym (opposite-twice neighbour.arc)) some) free refl refl refl;
  steps = record {
    step_places = length-set search.steps neighbour.zone step ∙ v.steps.step_places;
    within = λ z. in_within z (cases_eq z neighbour.zone);
    steps_from = λ z positive near. in_steps z positive near (cases_eq z neighbour.zone);
    later = λ i positive most. in_later i positive most (cases_lt i search.count);
    ordered = λ i j positive before most. in_ordered i j positive before most (cases_lt j search.count);
    first = λ arc known has_room among near rise. in_first arc known has_room among.0 among.1 among.2 near rise (cases_eq (end_of graph arc) neighbour.zone);
  };
  met = λ z positive near. in_met z positive near (cases_eq z neighbour.zone);
}
  where
    neighbour : Neighbour
    neighbour = get_or neighbours index no_step

    is_neighbour : IsNeighbour graph zone neighbour
    is_neighbour = neighbour_at graph zone neighbours index no_step grid.is_graph all within

    step : Neighbour
    step = record { arc = neighbour.arc; zone = zone }

    steps' : List Neighbour
    steps' = set search.steps neighbour.zone step

    zones' : List ℕ
    zones' = set search.zones search.count neighbour.zone

    distances' : List (Option ℕ)
    distances' = set search.distances neighbour.zone (Some distance)

    there : neighbour.zone < 64
    there = omega (arith, is_neighbour.there, grid.few_zones)

    far : distance_at search.distances neighbour.zone ≡ 128
    far = ap arcs_of_distance free

    now : distance_at distances' neighbour.zone ≡ distance
    now = at_found search.distances neighbour.zone distance (let places = v.visiting.searching.places in omega (arith, there, places))

    apart_by : (z : ℕ) → distance_at search.distances z < 128 → z ≢ neighbour.zone
    apart_by z near e = omega (arith, near, far, ap (distance_at search.distances) e)

    still : (z : ℕ) → distance_at search.distances z < 128 → distance_at distances' z ≡ distance_at search.distances z
    still z near = at_others search.distances neighbour.zone z distance (apart_by z near)

    early : (i : ℕ) → i < search.count → distance_at search.distances (get_or search.zones i 0) < 128
    early i less = let near = v.visiting.searching.early i less in let spaces = v.visiting.searching.free in omega (arith, near, less, spaces)

    head_near : distance_at search.distances zone < 128
    head_near = subst (λ z. distance_at search.distances z < 128) v.visiting.head (early next v.visiting.behind)

    kept : (i : ℕ) → i < search.count → get_or zones' i 0 ≡ get_or search.zones i 0
    kept i less = get_or-set_other search.zones search.count i neighbour.zone 0 (λ e. omega (arith, less, e))

    last : get_or zones' search.count 0 ≡ neighbour.zone
    last =
        let places = v.visiting.searching.zone_places in
        let spaces = spaces_in graph (directed_room room false) from search.distances search.zones search.count neighbour.zone v.visiting.searching there free in
        get_or-set_same search.zones search.count neighbour.zone 0 (omega (arith, places, spaces))

    here : step_at steps' neighbour.zone ≡ step
    here = get_or-set_same search.steps neighbour.zone step no_step (let places = v.steps.step_places in omega (arith, there, places))

    others : (z : ℕ) → z ≢ neighbour.zone → step_at steps' z ≡ step_at search.steps z
    others z apart = get_or-set_other search.steps neighbour.zone z step no_step apart

    step_kept : (i : ℕ) → i < search.count → step_at steps' (get_or zones' i 0) ≡ step_at search.steps (get_or search.zones i 0)
    step_kept i less = ap (step_at steps') (kept i less) ∙ others (get_or search.zones i 0) (apart_by (get_or search.zones i 0) (early i less))

    step_last : (i : ℕ) → search.count ≤ i → i < search.count + 1 → step_at steps' (get_or zones' i 0) ≡ step
    step_last i least most =
        let place : i ≡ search.count = omega (arith, least, most) in
        ap (λ k. step_at steps' (get_or zones' k 0)) place ∙ ap (step_at steps') last ∙ here

    before_kept : (a b : ℕ) → IsBefore search.zones search.count a b → IsBefore zones' (search.count + 1) a b
    before_kept a b h = (h.0, h.1, h.2, omega (arith, h.3), kept h.0 (omega (arith, h.2, h.3)) ∙ h.4, kept h.1 h.3 ∙ h.5)

    earlier_kept : (s t : Neighbour) → IsEarlierStep search.zones search.count s t → IsEarlierStep zones' (search.count + 1) s t
    earlier_kept s t h = elim h [ inl before ↦ inl (before_kept s.zone t.zone before) | inr e ↦ inr e ]

    in_within : (z : ℕ) → (z ≡ neighbour.zone) ⊎ (z ≢ neighbour.zone) → (step_at steps' z).zone < 64
    in_within z (inl e) = subst (λ (n : Neighbour). n.zone < 64) (sym (ap (step_at steps') e ∙ here)) low
    in_within z (inr apart) = subst (λ (n : Neighbour). n.zone < 64) (sym (others z apart)) (v.steps.within z)

    new : (z : ℕ) → z ≡ neighbour.zone → IsStepFrom graph room distances' z step
    new z e = record {
      known = is_neighbour.known;
      start = is_neighbour.start;
      end = is_neighbour.end ∙ sym e;
      has_room = some;
      falls = ap (distance_at distances') e ∙ now ∙ sym v.visiting.farther ∙ ap (λ n. n + 1) (sym (still zone head_near));
    }

    in_steps : (z : ℕ) → 0 < distance_at distances' z → distance_at distances' z < 128 → (z ≡ neighbour.zone) ⊎ (z ≢ neighbour.zone)
        → IsStepFrom graph room distances' z (step_at steps' z)
    in_steps z positive near (inl e) = subst (IsStepFrom graph room distances' z) (sym (ap (step_at steps') e ∙ here)) (new z e)
    in_steps z positive near (inr apart) =
        let same : distance_at distances' z ≡ distance_at search.distances z = at_others search.distances neighbour.zone z distance apart in
        let s = v.steps.steps_from z (omega (arith, positive, same)) (omega (arith, near, same)) in
        subst (IsStepFrom graph room distances' z) (sym (others z apart)) (record {
          known = s.known;
          start = s.start;
          end = s.end;
          has_room = s.has_room;
          falls = same ∙ s.falls ∙ ap (λ n. n + 1) (sym (still (step_at search.steps z).zone (omega (arith, s.falls, near, same))));
        })

    in_later : (i : ℕ) → 0 < i → i < search.count + 1 → (i < search.count) ⊎ (search.count ≤ i) → 0 < distance_at distances' (get_or zones' i 0)
    in_later i positive most (inl less) =
        let old = v.steps.later i positive less in
        let same = ap (distance_at distances') (kept i less) ∙ still (get_or search.zones i 0) (early i less) in
        omega (arith, old, same)
    in_later i positive most (inr least) =
        let place : i ≡ search.count = omega (arith, least, most) in
        let same = ap (λ k. distance_at distances' (get_or zones' k 0)) place ∙ ap (distance_at distances') last ∙ now in
        let farther = v.visiting.farther in
        omega (arith, same, farther)

    -- the step of a zone that was found before is an earlier one than the new step
    earlier : (i : ℕ) → 0 < i → i < search.count → IsEarlierStep zones' (search.count + 1) (step_at search.steps (get_or search.zones i 0)) step
    earlier i positive less = elim (v.met (get_or search.zones i 0) (v.steps.later i positive less) (early i less)) [
      | inl among ↦
          let behind = v.visiting.behind in
          inl (among.0, next, among.1, omega (arith, behind), kept among.0 (omega (arith, among.1, behind)) ∙ among.2, kept next behind ∙ v.visiting.head)
      | inr met ↦ inr (met.0, met.1 index (omega arith) within)
    ]

    in_ordered : (i j : ℕ) → 0 < i → i < j → j < search.count + 1 → (j < search.count) ⊎ (search.count ≤ j)
        → IsEarlierStep zones' (search.count + 1) (step_at steps' (get_or zones' i 0)) (step_at steps' (get_or zones' j 0))
    in_ordered i j positive before most (inl less) =
        subst (λ s. IsEarlierStep zones' (search.count + 1) s (step_at steps' (get_or zones' j 0))) (sym (step_kept i (omega (arith, before, less))))
        (subst (IsEarlierStep zones' (search.count + 1) (step_at search.steps (get_or search.zones i 0))) (sym (step_kept j less))
        (earlier_kept (step_at search.steps (get_or search.zones i 0)) (step_at search.steps (get_or search.zones j 0)) (v.steps.ordered i j positive before less)))
    in_ordered i j positive before most (inr least) =
        let less : i < search.count = omega (arith, before, most) in
        subst (λ s. IsEarlierStep zones' (search.count + 1) s (step_at steps' (get_or zones' j 0))) (sym (step_kept i less))
        (subst (IsEarlierStep zones' (search.count + 1) (step_at search.steps (get_or search.zones i 0))) (sym (step_last j least most)) (earlier i positive less))

    in_first : (arc : Arc) → HasArc graph arc → 0 < room arc → (i : ℕ) → i < next → get_or zones' i 0 ≡ start_of graph arc
        → distance_at distances' (end_of graph arc) < 128 → distance_at distances' (end_of graph arc) ≡ distance_at distances' (start_of graph arc) + 1
        → (end_of graph arc ≡ neighbour.zone) ⊎ (end_of graph arc ≢ neighbour.zone)
        → IsBefore zones' (search.count + 1) (step_at steps' (end_of graph arc)).zone (start_of graph arc) ⊎ ((step_at steps' (end_of graph arc)).zone ≡ start_of graph arc)
    in_first arc known has_room i less at near rise (inl e) =
        let before : i < search.count = let behind = v.visiting.behind in omega (arith, less, behind) in
        let start : get_or search.zones i 0 ≡ start_of graph arc = sym (kept i before) ∙ at in
        let passed = v.visiting.passed i less (opposite_arc arc) known (subst (λ (x : Arc). 0 < room x) (sym (opposite-twice arc)) has_room) (opposite-end graph arc ∙ sym start) in
        let end = ap (distance_at search.distances) (opposite-start graph arc ∙ e) in
        let early_on = v.visiting.searching.early i before in
        let spaces = v.visiting.searching.free in
        absurd (omega (arith, passed, end, far, early_on, before, spaces))
    in_first arc known has_room i less at near rise (inr apart) =
        let before : i < search.count = let behind = v.visiting.behind in omega (arith, less, behind) in
        let start : get_or search.zones i 0 ≡ start_of graph arc = sym (kept i before) ∙ at in
        let same = at_others search.distances neighbour.zone (end_of graph arc) distance apart in
        let same_start = still (start_of graph arc) (subst (λ z. distance_at search.distances z < 128) start (early i before)) in
        let old = v.steps.first arc known has_room (i, less, start) (omega (arith, near, same)) (omega (arith, rise, same, same_start)) in
        subst (λ (n : Neighbour). IsBefore zones' (search.count + 1) n.zone (start_of graph arc) ⊎ (n.zone ≡ start_of graph arc)) (sym (others (end_of graph arc) apart))
        (elim old [ inl b ↦ inl (before_kept (step_at search.steps (end_of graph arc)).zone (start_of graph arc) b) | inr e ↦ inr e ])

    in_met : (z : ℕ) → 0 < distance_at distances' z → distance_at distances' z < 128 → (z ≡ neighbour.zone) ⊎ (z ≢ neighbour.zone)
        → IsMet zones' next zone neighbours (index + 1) (step_at steps' z)
    in_met z positive near (inl e) =
        subst (IsMet zones' next zone neighbours (index + 1)) (sym (ap (step_at steps') e ∙ here))
        (inr (refl, λ i least most. rising_neighbours graph zone neighbours no_step index i grid.is_graph all (omega (arith, least)) most))
    in_met z positive near (inr apart) =
        let same : distance_at distances' z ≡ distance_at search.distances z = at_others search.distances neighbour.zone z distance apart in
        let behind = v.visiting.behind in
        subst (IsMet zones' next zone neighbours (index + 1)) (sym (others z apart))
        (elim (v.met z (omega (arith, positive, same)) (omega (arith, near, same))) [
          | inl among ↦ inl (among.0, among.1, kept among.0 (omega (arith, among.1, behind)) ∙ among.2)
          | inr met ↦ inr (met.0, λ i least most. met.1 i (omega (arith, least)) most)
        ])

-- a neighbour is met, in each case
pub from_meets : (graph : Graph) (room : Arc → ℕ) (from : ℕ) (search : Search) (next zone distance : ℕ) (neighbours : List Neighbour) (index : ℕ)
    → IsGrid graph → neighbours ≡ neighbours_of graph zone → index < length neighbours → zone < 64
    → IsVisitingFrom graph room from search next zone distance neighbours index
    → IsVisitingFrom graph room from (first_met (nat_lt 0 (room (get_or neighbours index no_step).arc)) search (get_or neighbours index no_step).zone distance (record { arc = (get_or neighbours index no_step).arc; zone = zone }))
    next zone distance neighbours (index + 1)
from_meets graph room from search next zone distance neighbours index grid all within low v =
    by (get_or search.distances neighbour.zone None) refl (nat_lt 0 (room neighbour.arc)) refl
  where
    neighbour : Neighbour
    neighbour = get_or neighbours index no_step

    After : Search → Type 0
    After later = IsVisitingFrom graph room from later next zone distance neighbours (index + 1)

    one_of : Bool → Search
    one_of b = if b then found search neighbour.zone distance (record { arc = neighbour.arc; zone = zone }) else search

    by : (o : Option ℕ) → get_or search.distances neighbour.zone None ≡ o → (b : Bool) → nat_lt 0 (room neighbour.arc) ≡ b
        → After (one_of (is_none (get_or search.distances neighbour.zone None) && nat_lt 0 (room neighbour.arc)))
    by None e true test =
        subst (λ b. After (one_of b)) (sym (ap (λ o. is_none o && nat_lt 0 (room neighbour.arc)) e ∙ test))
        (from_finds graph room from search next zone distance neighbours index grid all within low v (ltb-true 0 (room neighbour.arc) test) e)
    by None e false test =
        subst (λ b. After (one_of b)) (sym (ap (λ o. is_none o && nat_lt 0 (room neighbour.arc)) e ∙ test))
        (from_skips graph room from search next zone distance neighbours index within v (inl (ltb-false 0 (room neighbour.arc) test)))
    by (Some far) e b test =
        subst (λ b. After (one_of b)) (sym (ap (λ o. is_none o && nat_lt 0 (room neighbour.arc)) e))
        (from_skips graph room from search next zone distance neighbours index within v (inr (ap is_some e)))

-- ---- its start

pub begun_over : (branches : Branches) (queue : Queue) (zone : ℕ) → branches.distances ≡ replicate 64 None → queue.zones ≡ set (replicate 64 0) 0 zone → queue.count ≡ 1
    → search_over (record { distances = set branches.distances zone (Some 0); steps = branches.steps }) queue ≡ begun zone branches.steps
begun_over branches queue zone none zones count =
    λ i. record { distances = set (none i) zone (Some 0); steps = branches.steps; zones = zones i; count = count i }

-- at the start no zone but its own has a distance
pub start_alone : (graph : Graph) (room : Arc → ℕ) (to : ℕ) (distances : List (Option ℕ)) (zones : List ℕ) → IsReady graph room to distances zones 1 0
    → get_or zones 0 0 ≡ to → (zone : ℕ) → 0 < distance_at distances zone → distance_at distances zone < 128 → ⊥
start_alone graph room to distances zones r first zone positive near =
    let at = r.searching.listed zone near in
    let place : at.0 ≡ 0 = omega (arith, at.1) in
    let same : zone ≡ to = sym at.2 ∙ ap (λ i. get_or zones i 0) place ∙ first in
    let home = r.searching.home in
    omega (arith, positive, home, ap (distance_at distances) same)

no_step_at : (n zone : ℕ) → get_or (replicate n no_step) zone no_step ≡ no_step
no_step_at zero zone = refl
no_step_at (suc n) zero = refl
no_step_at (suc n) (suc zone) = no_step_at n zone

-- the steps that a search begins with are at zones with places
pub within_at_first : (steps : List Neighbour) → steps ≡ replicate 64 no_step → (zone : ℕ) → (step_at steps zone).zone < 64
within_at_first steps no_steps zone = subst (λ (n : Neighbour). n.zone < 64) (sym (ap (λ l. step_at l zone) no_steps ∙ no_step_at 64 zone)) (omega arith)

pub from_started : (graph : Graph) (room : Arc → ℕ) (from : ℕ) (steps : List Neighbour) → HasZone graph from → from < 64 → length steps ≡ 64
    → ((zone : ℕ) → (step_at steps zone).zone < 64) → IsReadyFrom graph room from (begun from steps) 0
from_started graph room from steps known low places within =
    let ready = started graph (directed_room room false) from known low in
    let never = start_alone graph (directed_room room false) from (begun from steps).distances (begun from steps).zones ready refl in
    record {
      ready = ready;
      steps = record {
        step_places = places;
        within = within;
        steps_from = λ zone positive near. absurd (never zone positive near);
        later = λ i positive less. absurd (omega (arith, positive, less));
        ordered = λ i j positive before less. absurd (omega (arith, positive, before, less));
        first = λ arc known some among near rise. absurd (omega (arith, among.1));
      };
      visited = λ zone positive near. absurd (never zone positive near);
    }

-- ---- its end

-- the tree of a search
abbrev pub branches_tree : Search → (zone : ℕ) → (towards : Bool) → Tree
branches_tree search zone towards = tree_of (record { distances = search.distances; steps = search.steps }) zone towards

first_steps : (graph : Graph) (room : Arc → ℕ) (from : ℕ) (search : Search) (next : ℕ)
    → IsReadyFrom graph room from search next → AreFirstSteps graph room search.distances search.steps search.zones search.count
first_steps graph room from search next r = record {
  steps_from = r.steps.steps_from;
  origin = origin;
  later = r.steps.later;
  ordered = r.steps.ordered;
  first = λ arc known some near rise.
      let at = r.ready.searching.listed (start_of graph arc) (omega (arith, near, rise)) in
      first arc known some near rise at.0 at.1 at.2 (cases_lt at.0 next);
}
  where
    origin : distance_at search.distances (get_or search.zones 0 0) ≡ 0
    origin =
        let home = r.ready.searching.home in
        let at = r.ready.searching.listed from (omega (arith, home)) in
        let early = r.ready.searching.early 0 (omega (arith, at.1)) in
        omega (arith, early)

    first : (arc : Arc) → HasArc graph arc → 0 < room arc → distance_at search.distances (end_of graph arc) < 128
        → distance_at search.distances (end_of graph arc) ≡ distance_at search.distances (start_of graph arc) + 1
        → (i : ℕ) → i < search.count → get_or search.zones i 0 ≡ start_of graph arc → (i < next) ⊎ (next ≤ i)
        → IsBefore search.zones search.count (step_at search.steps (end_of graph arc)).zone (start_of graph arc) ⊎ ((step_at search.steps (end_of graph arc)).zone ≡ start_of graph arc)
    first arc known some near rise i within at (inl less) = r.steps.first arc known some (i, less, at) near rise
    first arc known some near rise i within at (inr least) =
        let visited = r.visited (end_of graph arc) (omega (arith, rise)) near in
        inl (visited.0, i, omega (arith, visited.1, least), within, visited.2, at)

-- a search that has visited all zones that it has found, or has found all zones, has the distances,
-- and the tree of one that goes out from its zone tells the best routes
pub search_found : (graph : Graph) (room : Arc → ℕ) (zone : ℕ) (towards : Bool) (search : Search) (next : ℕ) → IsGrid graph → HasZone graph zone
    → IsReadyFrom graph (directed_room room (not towards)) zone search next → (search.count ≤ next) ⊎ (zone_count graph ≤ search.count)
    → IsFound graph room (branches_tree search zone towards)
search_found graph room zone towards search next grid there r past = record {
  distances = distances towards done;
  places = record {
    distance_places = r.ready.searching.places;
    step_places = r.steps.step_places;
    short = r.ready.searching.few;
    within = r.steps.within;
  };
  fresh = fresh towards done (first_steps graph (directed_room room (not towards)) zone search next r);
}
  where
    done : AreDistances graph (directed_room (directed_room room (not towards)) false) zone search.distances
    done = search_done graph (directed_room (directed_room room (not towards)) false) zone search.distances search.zones search.count next grid r.ready past

    distances : (t : Bool) → AreDistances graph (directed_room (directed_room room (not t)) false) zone search.distances → AreDistances graph (directed_room room t) zone search.distances
    distances true a = subst (λ r. AreDistances graph r zone search.distances) (λ i. λ arc. room (opposite-twice arc i)) a
    distances false a = a

    fresh : (t : Bool) → AreDistances graph (directed_room (directed_room room (not t)) false) zone search.distances
        → AreFirstSteps graph (directed_room room (not t)) search.distances search.steps search.zones search.count
        → t ≡ false → IsFresh graph room (branches_tree search zone t)
    fresh true a f e = absurd (true≢false e)
    fresh false a f e = from_fresh graph room zone search.distances search.steps search.zones search.count grid there a f
