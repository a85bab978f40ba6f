-- The neighbours of a zone are over borders that rise, and have rooms and places.
use Rattle.std.proofs.Common.{◌≡◌, ◌∙◌, ◌+◌, ◌<◌, ◌≤◌, ◌==◌, inl, inr, ℕ, zero, suc, Bool, true, false, cond, List, [], ◌∷◌, length, map, filter, find, flat_map, get_or, Option, Some, refl, sym, ap, subst, arith, eqb-true, true≢false}
use Rattle.std.specs.List.{range_with_len}
use Rattle.zone_graph.specs.declared.route.Arc.{Arc}
use Rattle.zone_graph.specs.declared.grid.Neighbour.{Neighbour}
use Rattle.zone_graph.specs.Graph.{Graph, IsGraph, arcs_from, arcs_over, border_count, start_of}
use Rattle.zone_graph.specs.Grid.{IsGrid, neighbour_over, neighbours_of}
use Rattle.zone_graph.specs.Route.{IsIn}
use Rattle.zone_graph.proofs.Membership.{from_filter, from_flat_map, from_map, from_range}
use Rattle.zone_graph.proofs.Places.{at_place}
use Rattle.cut_proof.proofs.Neighbours.{neighbour_at, neighbour_within}
use Rattle.route_choice.specs.Search.{AreKnown}

-- the keys of a list rise
abbrev IsRising : {X : Type 0} → (X → ℕ) → List X → Type 0
IsRising key [] = Unit {0}
IsRising {X} key (x ∷ xs) = ((y : X) → IsIn y xs → key x < key y) × IsRising key xs

rising-map : {X Y : Type 0} (key : Y → ℕ) (f : X → Y) (xs : List X) → IsRising (λ x. key (f x)) xs → IsRising key (map f xs)
rising-map key f [] h = tt
rising-map key f (x ∷ xs) h =
    (λ y i. let r = from_map f y xs i in subst (λ z. key (f x) < key z) (sym r.2) (h.0 r.0 r.1), rising-map key f xs h.1)

rising_at : {X : Type 0} (key : X → ℕ) (xs : List X) (d : X) (i j : ℕ) → IsRising key xs → i < j → j < length xs → key (get_or xs i d) < key (get_or xs j d)
rising_at key [] d i j h before within = absurd (omega (arith, within))
rising_at key (x ∷ xs) d i zero h before within = absurd (omega (arith, before))
rising_at key (x ∷ xs) d zero (suc j) h before within = h.0 (get_or xs j d) (at_place xs j d (omega (arith, within)))
rising_at key (x ∷ xs) d (suc i) (suc j) h before within = rising_at key xs d i j h.1 (omega (arith, before)) (omega (arith, within))

border_in : (arc : Arc) (border : ℕ) → IsIn arc (arcs_over border) → arc.border ≡ border
border_in arc border h = elim h [
  | inl e ↦ ap (λ (a : Arc). a.border) e
  | inr i ↦ elim i [ inl e ↦ ap (λ (a : Arc). a.border) e | inr never ↦ absurd never ]
]

later_border : (arc : Arc) (first count : ℕ) → IsIn arc (flat_map arcs_over (range_with_len first count)) → first ≤ arc.border
later_border arc first count h =
    let r = from_flat_map arcs_over arc (range_with_len first count) h in
    omega (arith, (from_range r.0 first count r.1).0, border_in arc r.0 r.2)

-- of the two arcs of a border one at the most starts in a zone
rising-arcs : (graph : Graph) (zone first count : ℕ) → IsGraph graph → first + count ≤ border_count graph
    → IsRising (λ (arc : Arc). arc.border) (filter (λ (arc : Arc). start_of graph arc == zone) (flat_map arcs_over (range_with_len first count)))
rising-arcs graph zone first zero is within = tt
rising-arcs graph zone first (suc count) is within =
    by (start_of graph forward == zone) refl (start_of graph backward == zone) refl (rising-arcs graph zone (first + 1) count is (omega (arith, within)))
  where
    forward : Arc
    forward = record { border = first; forward = true }

    backward : Arc
    backward = record { border = first; forward = false }

    key : Arc → ℕ
    key arc = arc.border

    onward : List Arc
    onward = filter (λ (arc : Arc). start_of graph arc == zone) (flat_map arcs_over (range_with_len (first + 1) count))

    later : (arc : Arc) → IsIn arc onward → first < arc.border
    later arc i =
        let r = from_filter (λ (a : Arc). start_of graph a == zone) arc (flat_map arcs_over (range_with_len (first + 1) count)) i in
        omega (arith, later_border arc (first + 1) count r.0)

    by : (b : Bool) → (start_of graph forward == zone) ≡ b → (c : Bool) → (start_of graph backward == zone) ≡ c → IsRising key onward
        → IsRising key (cond b (forward ∷ cond c (backward ∷ onward) onward) (cond c (backward ∷ onward) onward))
    by true s true t rest = absurd (is.apart first (omega (arith, within)) (eqb-true (start_of graph forward) zone s ∙ sym (eqb-true (start_of graph backward) zone t)))
    by true s false t rest = (later, rest)
    by false s true t rest = (later, rest)
    by false s false t rest = rest

rising : (graph : Graph) (zone : ℕ) → IsGraph graph → IsRising (λ (n : Neighbour). n.arc.border) (neighbours_of graph zone)
rising graph zone is =
    rising-map (λ (n : Neighbour). n.arc.border) (neighbour_over graph) (arcs_from graph zone) (rising-arcs graph zone 0 (border_count graph) is (omega arith))

-- the first that passes has a lesser key than all others that do
first_least : {X : Type 0} (key : X → ℕ) (p : X → Bool) (xs : List X) (x : X) → IsRising key xs → find p xs ≡ Some x → (y : X) → IsIn y xs → p y ≡ true → key x ≤ key y
first_least key p [] x h e y i q = absurd i
first_least {X} key p (z ∷ xs) x h e y i q = by (p z) refl e (λ f j. first_least key p xs x h.1 f y j q)
  where
    by : (b : Bool) → p z ≡ b → cond b (Some z) (find p xs) ≡ Some x → (find p xs ≡ Some x → IsIn y xs → key x ≤ key y) → key x ≤ key y
    by true t f rest =
        let same : z ≡ x = cc in
        elim i [ inl s ↦ omega (arith, ap key s, ap key same) | inr j ↦ let less = h.0 y j in omega (arith, less, ap key same) ]
    by false t f rest = elim i [ inl s ↦ absurd (true≢false (sym q ∙ ap p s ∙ t)) | inr j ↦ rest f j ]

pub first_neighbour_least : (graph : Graph) (zone : ℕ) (p : Neighbour → Bool) (neighbour : Neighbour) → IsGraph graph → find p (neighbours_of graph zone) ≡ Some neighbour
    → (other : Neighbour) → IsIn other (neighbours_of graph zone) → p other ≡ true → neighbour.arc.border ≤ other.arc.border
first_neighbour_least graph zone p neighbour is e = first_least (λ (n : Neighbour). n.arc.border) p (neighbours_of graph zone) neighbour (rising graph zone is) e

pub rising_neighbours : (graph : Graph) (zone : ℕ) (neighbours : List Neighbour) (d : Neighbour) (i j : ℕ) → IsGraph graph → neighbours ≡ neighbours_of graph zone → i < j → j < length neighbours
    → (get_or neighbours i d).arc.border < (get_or neighbours j d).arc.border
rising_neighbours graph zone neighbours d i j is all before within =
    rising_at (λ (n : Neighbour). n.arc.border) neighbours d i j
    (subst (IsRising (λ (n : Neighbour). n.arc.border)) (sym all) (rising graph zone is)) before within

pub known_neighbours : (graph : Graph) (zone : ℕ) (neighbours : List Neighbour) (rooms : List (ℕ × ℕ)) (distances : List (Option ℕ)) → IsGrid graph
    → neighbours ≡ neighbours_of graph zone → length rooms ≡ border_count graph → 64 ≤ length distances → AreKnown rooms distances neighbours
known_neighbours graph zone neighbours rooms distances grid all size places = λ index other less.
    let n = neighbour_at graph zone neighbours index other grid.is_graph all less in
    (omega (arith, n.known, size), omega (arith, neighbour_within graph zone neighbours index other grid all less, places))
