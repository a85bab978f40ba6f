-- A search that goes out from a zone: what its lists of distances and of found zones say at each
-- time, and that they are the distances at the end.
use Rattle.std.proofs.Common.{◌≡◌, ◌≢◌, ◌∙◌, ◌+◌, ◌<◌, ◌≤◌, ◌⊎◌, inl, inr, ℕ, zero, suc, true, List, length, get_or, set, replicate, Option, Some, None, is_some, refl, sym, ap, subst, arith, get_or-set_same, get_or-set_other}
use Rattle.std.specs.List.{sum_by}
use Rattle.std.proofs.lemmas.Bool.{cases_eq, cases_lt}
use Rattle.std.proofs.lemmas.List.{length-replicate, length-set}
use Rattle.std.proofs.lemmas.List.Sums.{sum_by-set}
use Rattle.std.proofs.lemmas.List.Folds.{sum_by-replicate}
use Rattle.zone_graph.specs.declared.route.Arc.{Arc}
use Rattle.zone_graph.specs.declared.grid.Neighbour.{Neighbour}
use Rattle.zone_graph.specs.Graph.{Graph, HasArc, HasZone, end_of, start_of}
use Rattle.zone_graph.specs.Grid.{IsGrid, neighbour_over, neighbours_of}
use Rattle.zone_graph.specs.Pour.{opposite_arc}
use Rattle.zone_graph.specs.Route.{IsIn}
use Rattle.zone_graph.proofs.Arcs.{opposite-start, opposite-end, opposite-twice}
use Rattle.zone_graph.proofs.Places.{place_of, at_place, at_any}
use Rattle.cut_proof.specs.Distance.{AreDistances, arcs_of_distance, distance_at}
use Rattle.cut_proof.proofs.Neighbours.{IsNeighbour, neighbour_by, neighbour_in}

-- ---- one more distance

pub at_found : (distances : List (Option ℕ)) (zone distance : ℕ) → zone < length distances → distance_at (set distances zone (Some distance)) zone ≡ distance
at_found distances zone distance within = ap arcs_of_distance (get_or-set_same distances zone (Some distance) None within)

pub at_others : (distances : List (Option ℕ)) (zone other distance : ℕ) → other ≢ zone → distance_at (set distances zone (Some distance)) other ≡ distance_at distances other
at_others distances zone other distance apart = ap arcs_of_distance (get_or-set_other distances zone other (Some distance) None apart)

-- how many zones are not found
free : Option ℕ → ℕ
free None = 1
free (Some distance) = 0

pub free_places : List (Option ℕ) → ℕ
free_places distances = sum_by free distances

pub free_places-found : (distances : List (Option ℕ)) (zone distance : ℕ) → zone < length distances → get_or distances zone None ≡ None
    → free_places (set distances zone (Some distance)) + 1 ≡ free_places distances
unfolding free_places free
free_places-found distances zone distance within none =
    let changed = sum_by-set free distances zone (Some distance) None within in
    let one : free (get_or distances zone None) ≡ 1 = ap free none in
    omega (arith, changed, one)

-- ---- a search

pub record IsSearching (graph : Graph) (room : Arc → ℕ) (to : ℕ) (distances : List (Option ℕ)) (zones : List ℕ) (count : ℕ) : Type 0 where
  pub places : length distances ≡ 64
  pub zone_places : length zones ≡ 64
  pub home : distance_at distances to ≡ 0
  pub alone : (zone : ℕ) → distance_at distances zone ≡ 0 → zone ≡ to
  pub listed : (zone : ℕ) → distance_at distances zone < 128 → (i : ℕ) × (i < count) × (get_or zones i 0 ≡ zone)
  pub there : (i : ℕ) → i < count → HasZone graph (get_or zones i 0)
  pub early : (i : ℕ) → i < count → distance_at distances (get_or zones i 0) ≤ i
  pub sorted : (i j : ℕ) → i ≤ j → j < count → distance_at distances (get_or zones i 0) ≤ distance_at distances (get_or zones j 0)
  pub nearer : (zone : ℕ) → 0 < distance_at distances zone → distance_at distances zone < 128
      → (arc : Arc) × HasArc graph arc × (start_of graph arc ≡ zone) × (0 < room arc) × (distance_at distances zone ≡ distance_at distances (end_of graph arc) + 1)
  pub few : (zone distance : ℕ) → get_or distances zone None ≡ Some distance → distance < 64
  pub free : count + free_places distances ≡ 64

-- over no arc with room to one of the first zones do the distances fall by more than one
abbrev pub ArePassed : (graph : Graph) (room : Arc → ℕ) (distances : List (Option ℕ)) (zones : List ℕ) (next : ℕ) → Type 0
ArePassed graph room distances zones next =
    (i : ℕ) → i < next → (arc : Arc) → HasArc graph arc → 0 < room arc → end_of graph arc ≡ get_or zones i 0
    → distance_at distances (start_of graph arc) ≤ distance_at distances (get_or zones i 0) + 1

-- no zone that is found is farther by more than one than the next zone to be visited
abbrev pub AreClose : (distances : List (Option ℕ)) (zones : List ℕ) (count next : ℕ) → Type 0
AreClose distances zones count next =
    next < count → (i : ℕ) → i < count → distance_at distances (get_or zones i 0) ≤ distance_at distances (get_or zones next 0) + 1

-- a search before it visits a zone
pub record IsReady (graph : Graph) (room : Arc → ℕ) (to : ℕ) (distances : List (Option ℕ)) (zones : List ℕ) (count next : ℕ) : Type 0 where
  pub searching : IsSearching graph room to distances zones count
  pub passed : ArePassed graph room distances zones next
  pub close : AreClose distances zones count next
  pub behind : next ≤ count

-- a search while it visits a zone, of whose neighbours it has seen the first
pub record IsVisiting (graph : Graph) (room : Arc → ℕ) (to : ℕ) (distances : List (Option ℕ)) (zones : List ℕ) (count next zone distance : ℕ) (neighbours : List Neighbour) (index : ℕ) : Type 0 where
  pub searching : IsSearching graph room to distances zones count
  pub passed : ArePassed graph room distances zones next
  pub behind : next < count
  pub head : get_or zones next 0 ≡ zone
  pub farther : distance_at distances zone + 1 ≡ distance
  pub capped : (i : ℕ) → i < count → distance_at distances (get_or zones i 0) ≤ distance
  pub seen : (d : Neighbour) (i : ℕ) → i < index → 0 < room (opposite_arc (get_or neighbours i d).arc) → distance_at distances (get_or neighbours i d).zone ≤ distance

-- ---- its start

none_at : (n z : ℕ) → get_or {A = Option ℕ} (replicate n None) z None ≡ None
none_at zero z = refl
none_at (suc n) zero = refl
none_at (suc n) (suc z) = none_at n z

-- a search that has found its own zone alone
started_of : (graph : Graph) (room : Arc → ℕ) (to : ℕ) (distances : List (Option ℕ)) (zones : List ℕ) → HasZone graph to
    → length distances ≡ 64 → length zones ≡ 64 → get_or distances to None ≡ Some 0 → ((zone : ℕ) → zone ≢ to → get_or distances zone None ≡ None)
    → get_or zones 0 0 ≡ to → 1 + free_places distances ≡ 64 → IsReady graph room to distances zones 1 0
started_of graph room to distances zones known places zone_places place others first spaces =
    let here : distance_at distances to ≡ 0 = ap arcs_of_distance place in
    let far : (zone : ℕ) → zone ≢ to → distance_at distances zone ≡ 128 = λ zone apart. ap arcs_of_distance (others zone apart) in
    let only : (i : ℕ) → i < 1 → get_or zones i 0 ≡ to = λ i h. let zeroth : i ≡ 0 = omega arith in ap (λ k. get_or zones k 0) zeroth ∙ first in
    let near : (i : ℕ) → i < 1 → distance_at distances (get_or zones i 0) ≡ 0 = λ i h. ap (distance_at distances) (only i h) ∙ here in
    let alone : (zone : ℕ) → distance_at distances zone < 128 → zone ≡ to =
    λ zone h. elim (cases_eq zone to) [ inl e ↦ e | inr apart ↦ absurd (omega (arith, far zone apart, h)) ] in
    record {
      searching = record {
        places = places;
        zone_places = zone_places;
        home = here;
        alone = λ zone h. alone zone (omega (arith, h));
        listed = λ zone h. (0, omega arith, first ∙ sym (alone zone h));
        there = λ i h. subst (HasZone graph) (sym (only i h)) known;
        early = λ i h. omega (arith, near i h);
        sorted = λ i j least most. omega (arith, near i (omega (arith, least, most)), near j most);
        nearer = λ zone some short. absurd (omega (arith, some, ap (distance_at distances) (alone zone short), here));
        few = λ zone distance e. in_few zone distance e (cases_eq zone to);
        free = spaces;
      };
      passed = λ i h. absurd (omega (arith, h));
      close = λ h i k. omega (arith, near i k);
      behind = omega arith;
    }
  where
    in_few : (zone distance : ℕ) → get_or distances zone None ≡ Some distance → (zone ≡ to) ⊎ (zone ≢ to) → distance < 64
    in_few zone distance e (inl s) =
        let zeroth : distance ≡ 0 = sym (ap arcs_of_distance e) ∙ ap (distance_at distances) s ∙ ap arcs_of_distance place in omega arith
    in_few zone distance e (inr apart) = let none : None ≡ Some distance = sym (others zone apart) ∙ e in cc

pub started : (graph : Graph) (room : Arc → ℕ) (to : ℕ) → HasZone graph to → to < 64
    → IsReady graph room to (set (replicate 64 None) to (Some 0)) (set (replicate 64 0) 0 to) 1 0
unfolding free_places free
started graph room to known within =
    let length-none : length (replicate {A = Option ℕ} 64 None) ≡ 64 = length-replicate {A = Option ℕ} 64 None in
    let place : to < length (replicate {A = Option ℕ} 64 None) = omega arith in
    let fewer = free_places-found (replicate 64 None) to 0 place (none_at 64 to) in
    let all = sum_by-replicate free 64 None in
    started_of graph room to (set (replicate 64 None) to (Some 0)) (set (replicate 64 0) 0 to) known
    (length-set (replicate 64 None) to (Some 0) ∙ length-none)
    (length-set (replicate 64 0) 0 to ∙ length-replicate {A = ℕ} 64 0)
    (get_or-set_same (replicate 64 None) to (Some 0) None place)
    (λ zone apart. get_or-set_other (replicate 64 None) to zone (Some 0) None apart ∙ none_at 64 zone)
    refl
    (omega (arith, fewer, all))

-- ---- a zone that is found

-- a zone without a distance is none of those found
unfound : (graph : Graph) (room : Arc → ℕ) (to : ℕ) (distances : List (Option ℕ)) (zones : List ℕ) (count zone : ℕ)
    → IsSearching graph room to distances zones count → get_or distances zone None ≡ None
    → (i : ℕ) → i < count → get_or zones i 0 ≢ zone
unfound graph room to distances zones count zone s none i less same =
    let far : distance_at distances zone ≡ 128 = ap arcs_of_distance none in
    let near = s.early i less in
    let equal : distance_at distances (get_or zones i 0) ≡ distance_at distances zone = ap (distance_at distances) same in
    omega (arith, far, near, equal, s.free)

-- a zone that is about to be found from the next one, over an arc with room
record IsFound (graph : Graph) (room : Arc → ℕ) (distances : List (Option ℕ)) (zone distance found : ℕ) : Type 0 where
  pub there : HasZone graph found
  pub within : found < 64
  pub free : get_or distances found None ≡ None
  pub arc : Arc
  pub known : HasArc graph arc
  pub start : start_of graph arc ≡ found
  pub end : end_of graph arc ≡ zone
  pub has_room : 0 < room arc

-- the lists after it is found
record IsLonger (distances : List (Option ℕ)) (zones : List ℕ) (count distance found : ℕ) (distances' : List (Option ℕ)) (zones' : List ℕ) : Type 0 where
  pub places : length distances' ≡ 64
  pub zone_places : length zones' ≡ 64
  pub here : get_or distances' found None ≡ Some distance
  pub others : (zone : ℕ) → zone ≢ found → get_or distances' zone None ≡ get_or distances zone None
  pub kept : (i : ℕ) → i < count → get_or zones' i 0 ≡ get_or zones i 0
  pub last : get_or zones' count 0 ≡ found
  pub fewer : free_places distances' + 1 ≡ free_places distances

longer : (distances : List (Option ℕ)) (zones : List ℕ) (count distance found : ℕ) → length distances ≡ 64 → length zones ≡ 64 → count < 64 → found < 64
    → get_or distances found None ≡ None → IsLonger distances zones count distance found (set distances found (Some distance)) (set zones count found)
longer distances zones count distance found places zone_places room within none =
    let place : found < length distances = omega arith in
    let zone_place : count < length zones = omega arith in
    record {
      places = length-set distances found (Some distance) ∙ places;
      zone_places = length-set zones count found ∙ zone_places;
      here = get_or-set_same distances found (Some distance) None place;
      others = λ zone apart. get_or-set_other distances found zone (Some distance) None apart;
      kept = λ i less. get_or-set_other zones count i found 0 (below less);
      last = get_or-set_same zones count found 0 zone_place;
      fewer = free_places-found distances found distance place none;
    }
  where
    below : {i : ℕ} → i < count → i ≢ count
    below less same = omega arith

more_searching : (graph : Graph) (room : Arc → ℕ) (to : ℕ) (distances distances' : List (Option ℕ)) (zones zones' : List ℕ) (count next zone distance found : ℕ)
    → IsSearching graph room to distances zones count → next < count → get_or zones next 0 ≡ zone → distance_at distances zone + 1 ≡ distance
    → ((i : ℕ) → i < count → distance_at distances (get_or zones i 0) ≤ distance)
    → IsFound graph room distances zone distance found → IsLonger distances zones count distance found distances' zones'
    → IsSearching graph room to distances' zones' (count + 1)
more_searching graph room to distances distances' zones zones' count next zone distance found s behind head farther capped f l = record {
  places = l.places;
  zone_places = l.zone_places;
  home = same to (apart_by to (omega (arith, s.home))) ∙ s.home;
  alone = λ z h. in_alone z h (cases_eq z found);
  listed = λ z h. in_listed z h (cases_eq z found);
  there = λ i h. in_there i (cases_lt i count) h;
  early = λ i h. in_early i (cases_lt i count) h;
  sorted = λ i j least most. in_sorted i j (cases_lt j count) (cases_lt i count) least most;
  nearer = λ z some short. in_nearer z some short (cases_eq z found);
  few = λ z d e. in_few z d e (cases_eq z found);
  free = omega (arith, l.fewer, s.free);
}
  where
    far : distance_at distances found ≡ 128
    far = ap arcs_of_distance f.free

    here : distance_at distances' found ≡ distance
    here = ap arcs_of_distance l.here

    same : (z : ℕ) → z ≢ found → distance_at distances' z ≡ distance_at distances z
    same z apart = ap arcs_of_distance (l.others z apart)

    apart_by : (z : ℕ) → distance_at distances z < 128 → z ≢ found
    apart_by z near e = let equal : distance_at distances z ≡ distance_at distances found = ap (distance_at distances) e in omega (arith, near, equal, far)

    kept : (i : ℕ) → i < count → distance_at distances' (get_or zones' i 0) ≡ distance_at distances (get_or zones i 0)
    kept i less = ap (distance_at distances') (l.kept i less) ∙ same (get_or zones i 0) (unfound graph room to distances zones count found s f.free i less)

    last : distance_at distances' (get_or zones' count 0) ≡ distance
    last = ap (distance_at distances') l.last ∙ here

    at_last : (i : ℕ) → count ≤ i → i < count + 1 → i ≡ count
    at_last i least most = omega arith

    head_near : distance_at distances zone ≤ next
    head_near = let near = s.early next behind in let equal = ap (distance_at distances) head in omega (arith, near, equal)

    in_alone : (z : ℕ) → distance_at distances' z ≡ 0 → (z ≡ found) ⊎ (z ≢ found) → z ≡ to
    in_alone z h (inl e) = let equal : distance_at distances' z ≡ distance = ap (distance_at distances') e ∙ here in absurd (omega (arith, h, equal, farther))
    in_alone z h (inr apart) = s.alone z (sym (same z apart) ∙ h)

    in_listed : (z : ℕ) → distance_at distances' z < 128 → (z ≡ found) ⊎ (z ≢ found) → (i : ℕ) × (i < count + 1) × (get_or zones' i 0 ≡ z)
    in_listed z h (inl e) = (count, omega arith, l.last ∙ sym e)
    in_listed z h (inr apart) =
        let old = s.listed z (omega (arith, h, same z apart)) in
        (old.0, omega (arith, old.1), l.kept old.0 old.1 ∙ old.2)

    in_there : (i : ℕ) → (i < count) ⊎ (count ≤ i) → i < count + 1 → HasZone graph (get_or zones' i 0)
    in_there i (inl less) h = subst (HasZone graph) (sym (l.kept i less)) (s.there i less)
    in_there i (inr least) h = subst (HasZone graph) (sym (ap (λ k. get_or zones' k 0) (at_last i least h) ∙ l.last)) f.there

    in_early : (i : ℕ) → (i < count) ⊎ (count ≤ i) → i < count + 1 → distance_at distances' (get_or zones' i 0) ≤ i
    in_early i (inl less) h = omega (arith, kept i less, s.early i less)
    in_early i (inr least) h =
        let equal : distance_at distances' (get_or zones' i 0) ≡ distance = ap (λ k. distance_at distances' (get_or zones' k 0)) (at_last i least h) ∙ last in
        omega (arith, equal, farther, head_near, behind, least)

    in_sorted : (i j : ℕ) → (j < count) ⊎ (count ≤ j) → (i < count) ⊎ (count ≤ i) → i ≤ j → j < count + 1
        → distance_at distances' (get_or zones' i 0) ≤ distance_at distances' (get_or zones' j 0)
    in_sorted i j (inl less) (inl less') least most = omega (arith, kept i less', kept j less, s.sorted i j least less)
    in_sorted i j (inl less) (inr least') least most = absurd (omega (arith, less, least', least))
    in_sorted i j (inr past) (inl less') least most =
        let equal : distance_at distances' (get_or zones' j 0) ≡ distance = ap (λ k. distance_at distances' (get_or zones' k 0)) (at_last j past most) ∙ last in
        omega (arith, kept i less', equal, capped i less')
    in_sorted i j (inr past) (inr past') least most =
        let equal : i ≡ j = omega (arith, past, past', least, most) in
        let e = ap (λ k. distance_at distances' (get_or zones' k 0)) equal in omega (arith, e)

    in_nearer : (z : ℕ) → 0 < distance_at distances' z → distance_at distances' z < 128 → (z ≡ found) ⊎ (z ≢ found)
        → (arc : Arc) × HasArc graph arc × (start_of graph arc ≡ z) × (0 < room arc) × (distance_at distances' z ≡ distance_at distances' (end_of graph arc) + 1)
    in_nearer z some short (inl e) =
        let to_head : distance_at distances' (end_of graph f.arc) ≡ distance_at distances zone =
        ap (distance_at distances') f.end ∙ same zone (apart_by zone (omega (arith, head_near, behind, s.free))) in
        let equal : distance_at distances' z ≡ distance = ap (distance_at distances') e ∙ here in
        (f.arc, f.known, f.start ∙ sym e, f.has_room, omega (arith, to_head, equal, farther))
    in_nearer z some short (inr apart) =
        let equal = same z apart in
        let old = s.nearer z (omega (arith, some, equal)) (omega (arith, short, equal)) in
        let end = same (end_of graph old.0) (apart_by (end_of graph old.0) (omega (arith, old.4, short, equal))) in
        (old.0, old.1, old.2, old.3, omega (arith, old.4, equal, end))

    in_few : (z d : ℕ) → get_or distances' z None ≡ Some d → (z ≡ found) ⊎ (z ≢ found) → d < 64
    in_few z d e (inl q) =
        let equal : d ≡ distance = sym (ap arcs_of_distance e) ∙ ap (distance_at distances') q ∙ here in
        omega (arith, equal, farther, head_near, behind, s.free, l.fewer)
    in_few z d e (inr apart) = s.few z d (sym (l.others z apart) ∙ e)

-- ---- the visit of a zone

-- a visit begins
pub visit_begins : (graph : Graph) (room : Arc → ℕ) (to : ℕ) (distances : List (Option ℕ)) (zones : List ℕ) (count next zone distance : ℕ) (neighbours : List Neighbour)
    → IsReady graph room to distances zones count next → next < count → get_or zones next 0 ≡ zone → distance_at distances zone + 1 ≡ distance
    → IsVisiting graph room to distances zones count next zone distance neighbours 0
visit_begins graph room to distances zones count next zone distance neighbours r behind head farther = record {
  searching = r.searching;
  passed = r.passed;
  behind = behind;
  head = head;
  farther = farther;
  capped = λ i less. let equal = ap (distance_at distances) head in omega (arith, r.close behind i less, equal, farther);
  seen = λ d i less. absurd (omega (arith, less));
}

-- the zone of a neighbour is found
pub visit_finds : (graph : Graph) (room : Arc → ℕ) (to : ℕ) (distances : List (Option ℕ)) (zones : List ℕ) (count next zone distance : ℕ) (neighbours : List Neighbour) (index : ℕ) (neighbour : Neighbour)
    → IsGrid graph → neighbours ≡ neighbours_of graph zone → index < length neighbours → ((d : Neighbour) → get_or neighbours index d ≡ neighbour)
    → IsVisiting graph room to distances zones count next zone distance neighbours index
    → 0 < room (opposite_arc neighbour.arc) → get_or distances neighbour.zone None ≡ None
    → IsVisiting graph room to (set distances neighbour.zone (Some distance)) (set zones count neighbour.zone) (count + 1) next zone distance neighbours (index + 1)
visit_finds graph room to distances zones count next zone distance neighbours index neighbour grid all within item v has_room free =
    go (set distances neighbour.zone (Some distance)) (set zones count neighbour.zone)
    (longer distances zones count distance neighbour.zone v.searching.places v.searching.zone_places spaces there free)
  where
    is_neighbour : IsNeighbour graph zone neighbour
    is_neighbour = neighbour_in graph zone neighbour grid.is_graph
        (subst (IsIn neighbour) all (subst (λ n. IsIn n neighbours) (item neighbour) (at_place neighbours index neighbour within)))

    there : neighbour.zone < 64
    there = omega (arith, is_neighbour.there, grid.few_zones)

    spaces : count < 64
    spaces = omega (arith, v.searching.free, free_places-found distances neighbour.zone 0 (let places = v.searching.places in omega (arith, there, places)) free)

    is_found : IsFound graph room distances zone distance neighbour.zone
    is_found = record {
      there = is_neighbour.there;
      within = there;
      free = free;
      arc = opposite_arc neighbour.arc;
      known = is_neighbour.known;
      start = opposite-start graph neighbour.arc ∙ is_neighbour.end;
      end = opposite-end graph neighbour.arc ∙ is_neighbour.start;
      has_room = has_room;
    }

    far : distance_at distances neighbour.zone ≡ 128
    far = ap arcs_of_distance free

    go : (distances' : List (Option ℕ)) (zones' : List ℕ) → IsLonger distances zones count distance neighbour.zone distances' zones'
        → IsVisiting graph room to distances' zones' (count + 1) next zone distance neighbours (index + 1)
    go distances' zones' l = record {
      searching = more_searching graph room to distances distances' zones zones' count next zone distance neighbour.zone v.searching v.behind v.head v.farther v.capped is_found l;
      passed = λ i less arc known some end. in_passed i less arc known some end (cases_eq (start_of graph arc) neighbour.zone);
      behind = omega (arith, v.behind);
      head = l.kept next v.behind ∙ v.head;
      farther = ap (λ n. n + 1) (same zone (not_it zone (omega (arith, head_near)))) ∙ v.farther;
      capped = λ i less. in_capped i (cases_lt i count) less;
      seen = λ d i less some. in_seen d i some (cases_lt i index) less (cases_eq (get_or neighbours i d).zone neighbour.zone);
    }
      where
        same : (z : ℕ) → z ≢ neighbour.zone → distance_at distances' z ≡ distance_at distances z
        same z apart = ap arcs_of_distance (l.others z apart)

        not_it : (z : ℕ) → distance_at distances z < 128 → z ≢ neighbour.zone
        not_it z near e = let equal : distance_at distances z ≡ distance_at distances neighbour.zone = ap (distance_at distances) e in omega (arith, near, equal, far)

        head_near : distance_at distances zone < 64
        head_near = let near = v.searching.early next v.behind in let equal = ap (distance_at distances) v.head in omega (arith, near, equal, v.behind, spaces)

        kept : (i : ℕ) → i < count → distance_at distances' (get_or zones' i 0) ≡ distance_at distances (get_or zones i 0)
        kept i less = ap (distance_at distances') (l.kept i less) ∙ same (get_or zones i 0) (unfound graph room to distances zones count neighbour.zone v.searching free i less)

        here : distance_at distances' neighbour.zone ≡ distance
        here = ap arcs_of_distance l.here

        in_passed : (i : ℕ) → i < next → (arc : Arc) → HasArc graph arc → 0 < room arc → end_of graph arc ≡ get_or zones' i 0
            → (start_of graph arc ≡ neighbour.zone) ⊎ (start_of graph arc ≢ neighbour.zone)
            → distance_at distances' (start_of graph arc) ≤ distance_at distances' (get_or zones' i 0) + 1
        in_passed i less arc known some end (inl e) =
            let before : i < count = omega (arith, less, v.behind) in
            let old = v.passed i less arc known some (end ∙ l.kept i before) in
            let near = v.searching.early i before in
            let equal : distance_at distances (start_of graph arc) ≡ distance_at distances neighbour.zone = ap (distance_at distances) e in
            absurd (omega (arith, old, near, equal, far, before, spaces))
        in_passed i less arc known some end (inr apart) =
            let before : i < count = omega (arith, less, v.behind) in
            omega (arith, v.passed i less arc known some (end ∙ l.kept i before), kept i before, same (start_of graph arc) apart)

        in_capped : (i : ℕ) → (i < count) ⊎ (count ≤ i) → i < count + 1 → distance_at distances' (get_or zones' i 0) ≤ distance
        in_capped i (inl less) most = omega (arith, kept i less, v.capped i less)
        in_capped i (inr least) most =
            let place : i ≡ count = omega (arith, least, most) in
            let equal = ap (λ k. distance_at distances' (get_or zones' k 0)) place ∙ ap (distance_at distances') l.last ∙ here in omega (arith, equal)

        in_seen : (d : Neighbour) (i : ℕ) → 0 < room (opposite_arc (get_or neighbours i d).arc) → (i < index) ⊎ (index ≤ i) → i < index + 1
            → ((get_or neighbours i d).zone ≡ neighbour.zone) ⊎ ((get_or neighbours i d).zone ≢ neighbour.zone)
            → distance_at distances' (get_or neighbours i d).zone ≤ distance
        in_seen d i some place most (inl e) = let equal = ap (distance_at distances') e ∙ here in omega (arith, equal)
        in_seen d i some (inl less) most (inr apart) = omega (arith, same (get_or neighbours i d).zone apart, v.seen d i less some)
        in_seen d i some (inr least) most (inr apart) =
            let place : i ≡ index = omega (arith, least, most) in
            absurd (apart (ap (λ k. (get_or neighbours k d).zone) place ∙ ap (λ (n : Neighbour). n.zone) (item d)))

-- a neighbour is passed over: no arc with room leads from there, or it was found before
pub visit_skips : (graph : Graph) (room : Arc → ℕ) (to : ℕ) (distances : List (Option ℕ)) (zones : List ℕ) (count next zone distance : ℕ) (neighbours : List Neighbour) (index : ℕ) (neighbour : Neighbour)
    → ((d : Neighbour) → get_or neighbours index d ≡ neighbour)
    → IsVisiting graph room to distances zones count next zone distance neighbours index
    → (room (opposite_arc neighbour.arc) ≤ 0) ⊎ (is_some (get_or distances neighbour.zone None) ≡ true)
    → IsVisiting graph room to distances zones count next zone distance neighbours (index + 1)
visit_skips graph room to distances zones count next zone distance neighbours index neighbour item v none = record {
  searching = v.searching;
  passed = v.passed;
  behind = v.behind;
  head = v.head;
  farther = v.farther;
  capped = v.capped;
  seen = λ d i less some. in_seen d i some (cases_lt i index) less;
}
  where
    found : (o : Option ℕ) → get_or distances neighbour.zone None ≡ o → is_some o ≡ true → distance_at distances neighbour.zone ≤ distance
    found None e some = cc
    found (Some far) e some =
        let near : distance_at distances neighbour.zone ≡ far = ap arcs_of_distance e in
        let place = v.searching.listed neighbour.zone (omega (arith, near, v.searching.few neighbour.zone far e)) in
        let equal = ap (distance_at distances) place.2 in
        omega (arith, v.capped place.0 place.1, equal)

    near : (room (opposite_arc neighbour.arc) ≤ 0) ⊎ (is_some (get_or distances neighbour.zone None) ≡ true) → 0 < room (opposite_arc neighbour.arc)
        → distance_at distances neighbour.zone ≤ distance
    near (inl most) some = absurd (omega (arith, most, some))
    near (inr e) some = found (get_or distances neighbour.zone None) refl e

    in_seen : (d : Neighbour) (i : ℕ) → 0 < room (opposite_arc (get_or neighbours i d).arc) → (i < index) ⊎ (index ≤ i) → i < index + 1
        → distance_at distances (get_or neighbours i d).zone ≤ distance
    in_seen d i some (inl less) most = v.seen d i less some
    in_seen d i some (inr least) most =
        let place : i ≡ index = omega (arith, least, most) in
        let same : get_or neighbours i d ≡ neighbour = ap (λ k. get_or neighbours k d) place ∙ item d in
        let equal = ap (λ (n : Neighbour). distance_at distances n.zone) same in
        omega (arith, equal, near none (subst (λ (n : Neighbour). 0 < room (opposite_arc n.arc)) same some))

-- a visit ends
pub visit_ends : (graph : Graph) (room : Arc → ℕ) (to : ℕ) (distances : List (Option ℕ)) (zones : List ℕ) (count next zone distance : ℕ) (neighbours : List Neighbour) (index : ℕ)
    → neighbours ≡ neighbours_of graph zone → length neighbours ≤ index
    → IsVisiting graph room to distances zones count next zone distance neighbours index
    → IsReady graph room to distances zones count (next + 1)
visit_ends graph room to distances zones count next zone distance neighbours index all past v = record {
  searching = v.searching;
  passed = λ i less arc known some end. in_passed i (cases_lt i next) less arc known some end;
  close = λ behind i less.
      let head = ap (distance_at distances) v.head in
      let sorted = v.searching.sorted next (next + 1) (omega arith) behind in
      omega (arith, v.capped i less, v.farther, head, sorted);
  behind = omega (arith, v.behind);
}
  where
    in_passed : (i : ℕ) → (i < next) ⊎ (next ≤ i) → i < next + 1 → (arc : Arc) → HasArc graph arc → 0 < room arc → end_of graph arc ≡ get_or zones i 0
        → distance_at distances (start_of graph arc) ≤ distance_at distances (get_or zones i 0) + 1
    in_passed i (inl less) most arc known some end = v.passed i less arc known some end
    in_passed i (inr least) most arc known some end =
        let place : i ≡ next = omega (arith, least, most) in
        let at_head : get_or zones i 0 ≡ zone = ap (λ k. get_or zones k 0) place ∙ v.head in
        let back : Arc = opposite_arc arc in
        let listed = neighbour_by graph zone back known (opposite-start graph arc ∙ end ∙ at_head) in
        let d = neighbour_over graph back in
        let found = place_of d neighbours d (subst (IsIn d) (sym all) listed) in
        let has_room : 0 < room (opposite_arc (get_or neighbours found.0 d).arc) =
        subst (λ (n : Neighbour). 0 < room (opposite_arc n.arc)) (sym found.2) (subst (λ a. 0 < room a) (sym (opposite-twice arc)) some) in
        let near = v.seen d found.0 (omega (arith, found.1, past)) has_room in
        let equal : distance_at distances (get_or neighbours found.0 d).zone ≡ distance_at distances (start_of graph arc) =
        ap (λ (n : Neighbour). distance_at distances n.zone) found.2 ∙ ap (distance_at distances) (opposite-end graph arc) in
        let head = ap (distance_at distances) at_head in
        omega (arith, near, equal, head, v.farther)

-- ---- its end

-- a search that has visited all zones that it has found has the distances
pub ended : (graph : Graph) (room : Arc → ℕ) (to : ℕ) (distances : List (Option ℕ)) (zones : List ℕ) (count next : ℕ)
    → IsReady graph room to distances zones count next → count ≤ next → AreDistances graph room to distances
ended graph room to distances zones count next r past = record {
  places = r.searching.places;
  home = r.searching.home;
  alone = r.searching.alone;
  short = r.searching.few;
  falls = λ arc known some. in_falls arc known some (cases_lt (distance_at distances (end_of graph arc)) 128);
  nearer = r.searching.nearer;
}
  where
    most : (zone : ℕ) (o : Option ℕ) → get_or distances zone None ≡ o → distance_at distances zone ≤ 128
    most zone None e = let equal = ap arcs_of_distance e in omega (arith, equal)
    most zone (Some far) e = let equal = ap arcs_of_distance e in omega (arith, equal, r.searching.few zone far e)

    in_falls : (arc : Arc) → HasArc graph arc → 0 < room arc → (distance_at distances (end_of graph arc) < 128) ⊎ (128 ≤ distance_at distances (end_of graph arc))
        → distance_at distances (start_of graph arc) ≤ distance_at distances (end_of graph arc) + 1
    in_falls arc known some (inl near) =
        let place = r.searching.listed (end_of graph arc) near in
        let equal = ap (distance_at distances) place.2 in
        omega (arith, r.passed place.0 (omega (arith, place.1, past)) arc known some (sym place.2), equal)
    in_falls arc known some (inr far) = omega (arith, far, most (start_of graph arc) (get_or distances (start_of graph arc) None) refl)

-- where a zone is not found there is a place for it
pub spaces_in : (graph : Graph) (room : Arc → ℕ) (to : ℕ) (distances : List (Option ℕ)) (zones : List ℕ) (count zone : ℕ)
    → IsSearching graph room to distances zones count → zone < 64 → get_or distances zone None ≡ None → count < 64
spaces_in graph room to distances zones count zone s within free =
    let place : zone < length distances = omega (arith, within, s.places) in
    omega (arith, s.free, free_places-found distances zone 0 place free)

-- a neighbour is seen: its zone is found where an arc with room leads from there and it was not
-- found before
pub visit_goes_on : (graph : Graph) (room : Arc → ℕ) (to : ℕ) (distances distances' : List (Option ℕ)) (zones zones' : List ℕ) (count count' next zone distance : ℕ) (neighbours : List Neighbour) (index : ℕ) (d : Neighbour)
    → IsGrid graph → neighbours ≡ neighbours_of graph zone → index < length neighbours
    → IsVisiting graph room to distances zones count next zone distance neighbours index
    → 0 < room (opposite_arc (get_or neighbours index d).arc) → get_or distances (get_or neighbours index d).zone None ≡ None
    → distances' ≡ set distances (get_or neighbours index d).zone (Some distance) → zones' ≡ set zones count (get_or neighbours index d).zone → count' ≡ count + 1
    → IsVisiting graph room to distances' zones' count' next zone distance neighbours (index + 1)
visit_goes_on graph room to distances distances' zones zones' count count' next zone distance neighbours index d grid all within v some free e f g =
    subst (λ n. IsVisiting graph room to distances' zones' n next zone distance neighbours (index + 1)) (sym g)
    (subst (λ zs. IsVisiting graph room to distances' zs (count + 1) next zone distance neighbours (index + 1)) (sym f)
    (subst (λ ds. IsVisiting graph room to ds (set zones count (get_or neighbours index d).zone) (count + 1) next zone distance neighbours (index + 1)) (sym e)
    (visit_finds graph room to distances zones count next zone distance neighbours index (get_or neighbours index d) grid all within
    (λ other. at_any neighbours index other d within) v some free)))
