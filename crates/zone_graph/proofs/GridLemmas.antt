-- What a grid keeps, and what is found in it.
use Rattle.std.proofs.Common.{◌≡◌, ◌∙◌, ◌<◌, ◌≤◌, ◌==◌, ◌&&◌, ◌||◌, inl, inr, ℕ, Bool, true, false, List, [], length, find, get_or, Option, Some, None, option_map, IfSome, refl, sym, ap, ap₂, subst, arith, true≢false, eq-eqb, eqb-true}
use Rattle.std.specs.Cmp.Lexicographic.{nat_list_eq_equiv, same_text}
use Rattle.std.proofs.lemmas.Bool.{cases_lt, eqb-false, and_parts}
use Rattle.std.proofs.lemmas.List.Quantifiers.{position-Some}
use Rattle.zone_graph.specs.declared.route.Arc.{Arc}
use Rattle.zone_graph.specs.declared.grid.Neighbour.{Neighbour}
use Rattle.zone_graph.specs.Graph.{Graph, HasArc, HasZone, IsGraph, arc_ends, arcs_from, arcs_of, border_count, end_of, ends_of, start_of, zone_count}
use Rattle.zone_graph.specs.Grid.{IsGrid, JoinsZones, arc_between, leads, name_of, neighbour_over, neighbours_of, number_of_zone, same_ends, same_name}
use Rattle.zone_graph.specs.GridFault.{has_again, has_self_border}
use Rattle.zone_graph.proofs.Again.{behind_differs, list_any-no_position, none_at, or-true}
use Rattle.zone_graph.proofs.BestRoute.{same_arc}
use Rattle.zone_graph.proofs.Routes.{IsIn-arcs_of, from_arcs_of}
use Rattle.zone_graph.proofs.Finding.{option_map-same, option_map-find-map, find-filter, from_find, find-IsIn}
use Rattle.zone_graph.proofs.Arcs.{eqb-symm}

-- ---- finding

-- ---- arcs

-- the arc to a zone among the neighbours of another is the one between them
pub arc_of_neighbour : (graph : Graph) (from to : ℕ)
    → option_map (λ neighbour. neighbour.arc) (find (λ neighbour. neighbour.zone == to) (neighbours_of graph from)) ≡ arc_between graph from to
arc_of_neighbour graph from to =
    option_map-find-map (λ (n : Neighbour). n.zone == to) (neighbour_over graph) (λ (n : Neighbour). n.arc) (arcs_from graph from)
    ∙ option_map-same (find (λ arc. end_of graph arc == to) (arcs_from graph from))
    ∙ find-filter (λ arc. end_of graph arc == to) (λ arc. start_of graph arc == from) (arcs_of graph)

-- the arc between two zones is an arc of the graph with these ends
pub arc_between-ends : (graph : Graph) (from to : ℕ) (arc : Arc) → arc_between graph from to ≡ Some arc → HasArc graph arc × (arc_ends graph arc ≡ (from, to))
arc_between-ends graph from to arc h =
    let found = from_find (leads graph from to) arc (arcs_of graph) h in
    let ends = and_parts (start_of graph arc == from) (end_of graph arc == to) found.1 in
    let start : start_of graph arc ≡ from = eqb-true (start_of graph arc) from ends.0 in
    let end : end_of graph arc ≡ to = eqb-true (end_of graph arc) to ends.1 in
    (from_arcs_of graph arc found.0, λ i. (start i, end i))

-- what is between two zones, if anything is
pub arc_between-IfSome : (graph : Graph) (from to : ℕ) (found : Option Arc) → found ≡ arc_between graph from to
    → IfSome found (λ arc. HasArc graph arc × (arc_ends graph arc ≡ (from, to)))
arc_between-IfSome graph from to None e = tt
arc_between-IfSome graph from to (Some arc) e = arc_between-ends graph from to arc (sym e)

-- an arc of a graph leads from a zone of it
pub start_within : (graph : Graph) (arc : Arc) → IsGraph graph → HasArc graph arc → HasZone graph (start_of graph arc)
start_within graph arc is known = directed arc.forward refl
  where
    directed : (b : Bool) → arc.forward ≡ b → HasZone graph (start_of graph arc)
    directed true e = subst (λ (f : Bool). HasZone graph (start_of graph (record { border = arc.border; forward = f }))) (sym e) (is.within arc.border known).0
    directed false e = subst (λ (f : Bool). HasZone graph (start_of graph (record { border = arc.border; forward = f }))) (sym e) (is.within arc.border known).1

-- no arc leads from a number that is no zone's
pub arc_between-past : (graph : Graph) (from to : ℕ) → IsGraph graph → zone_count graph ≤ from → arc_between graph from to ≡ None
arc_between-past graph from to is past = by (arc_between graph from to) refl
  where
    by : (o : Option Arc) → arc_between graph from to ≡ o → o ≡ None
    by None e = refl
    by (Some arc) e =
        let known = arc_between-ends graph from to arc e in
        let start : start_of graph arc ≡ from = ap (λ p. p.0) known.1 in
        let within : start_of graph arc < zone_count graph = start_within graph arc is known.0 in
        absurd (omega arith)

straight : (a b : ℕ × ℕ) → a.0 ≡ b.0 → a.1 ≡ b.1 → same_ends a b ≡ true
straight a b p q = ap₂ (λ s t. (s && t) || ((a.0 == b.1) && (a.1 == b.0))) (eq-eqb a.0 b.0 p) (eq-eqb a.1 b.1 q)

crossed : (a b : ℕ × ℕ) → a.0 ≡ b.1 → a.1 ≡ b.0 → same_ends a b ≡ true
crossed a b p q = ap₂ (λ s t. ((a.0 == b.0) && (a.1 == b.1)) || (s && t)) (eq-eqb a.0 b.1 p) (eq-eqb a.1 b.0 q) ∙ or-true ((a.0 == b.0) && (a.1 == b.1))

-- two arcs with the same ends are over borders with the same ends
same_ends_of_arcs : (graph : Graph) (x y : Arc) → start_of graph x ≡ start_of graph y → end_of graph x ≡ end_of graph y
    → same_ends (ends_of graph x.border) (ends_of graph y.border) ≡ true
same_ends_of_arcs graph x y start end = by x.forward y.forward start end
  where
    by : (f g : Bool) → start_of graph (record { border = x.border; forward = f }) ≡ start_of graph (record { border = y.border; forward = g })
        → end_of graph (record { border = x.border; forward = f }) ≡ end_of graph (record { border = y.border; forward = g })
        → same_ends (ends_of graph x.border) (ends_of graph y.border) ≡ true
    by true true s t = straight (ends_of graph x.border) (ends_of graph y.border) s t
    by true false s t = crossed (ends_of graph x.border) (ends_of graph y.border) s t
    by false true s t = crossed (ends_of graph x.border) (ends_of graph y.border) t s
    by false false s t = straight (ends_of graph x.border) (ends_of graph y.border) t s

-- no other arc has the ends of an arc
pub arc_between-every : (graph : Graph) (from to : ℕ) (arc : Arc) → IsGrid graph → HasArc graph arc → arc_ends graph arc ≡ (from, to) → arc_between graph from to ≡ Some arc
arc_between-every graph from to arc grid known ends =
    let start : start_of graph arc ≡ from = ap (λ p. p.0) ends in
    let end : end_of graph arc ≡ to = ap (λ p. p.1) ends in
    let leading : leads graph from to arc ≡ true =
    ap (λ b. b && (end_of graph arc == to)) (eq-eqb (start_of graph arc) from start) ∙ eq-eqb (end_of graph arc) to end in
    let found = find-IsIn (leads graph from to) (arcs_of graph) arc (IsIn-arcs_of graph arc known) leading in
    let other = arc_between-ends graph from to found.0 found.1 in
    let other_start : start_of graph found.0 ≡ start_of graph arc = ap (λ p. p.0) other.1 ∙ sym start in
    let other_end : end_of graph found.0 ≡ end_of graph arc = ap (λ p. p.1) other.1 ∙ sym end in
    let border = grid.ends_differ found.0.border arc.border other.0 known (same_ends_of_arcs graph found.0 arc other_start other_end) in
    found.1 ∙ ap Some (same_arc graph found.0 arc grid.is_graph other.0 border other_start)

-- ---- names

-- the number of a name is that of a zone which has it
pub number_of_zone-name : (graph : Graph) (name : List ℕ) (zone : ℕ) → number_of_zone graph name ≡ Some zone → HasZone graph zone × (name_of graph zone ≡ name)
number_of_zone-name graph name zone h =
    let found = position-Some (same_name name) graph.zones zone [] h in
    (found.0, sym (same_text name (name_of graph zone) (sym found.1)))

-- the zone that has a name, if there is one
pub number_of_zone-IfSome : (graph : Graph) (name : List ℕ) (found : Option ℕ) → found ≡ number_of_zone graph name
    → IfSome found (λ zone. HasZone graph zone × (name_of graph zone ≡ name))
number_of_zone-IfSome graph name None e = tt
number_of_zone-IfSome graph name (Some zone) e = number_of_zone-name graph name zone (sym e)

-- no other zone has the name of a zone
pub number_of_zone-every : (graph : Graph) (name : List ℕ) (zone : ℕ) → IsGrid graph → HasZone graph zone → name_of graph zone ≡ name → number_of_zone graph name ≡ Some zone
number_of_zone-every graph name zone grid known named = by (number_of_zone graph name) refl
  where
    by : (o : Option ℕ) → number_of_zone graph name ≡ o → o ≡ Some zone
    by (Some other) e =
        let found = number_of_zone-name graph name other e in
        ap Some (grid.names_differ other zone found.0 known (found.1 ∙ sym named))
    by None e =
        let absent = none_at (same_name name) graph.zones [] (list_any-no_position (same_name name) graph.zones e) zone known in
        absurd (true≢false (sym (nat_list_eq_equiv.refl name) ∙ ap (same_name name) (sym named) ∙ absent))

-- ---- what makes a grid

and_comm : (a b : Bool) → (a && b) ≡ (b && a)
and_comm true true = refl
and_comm true false = refl
and_comm false true = refl
and_comm false false = refl

pub same_ends-symm : (a b : ℕ × ℕ) → same_ends a b ≡ same_ends b a
same_ends-symm a b =
    ap₂ (λ s t. (s && t) || ((a.0 == b.1) && (a.1 == b.0))) (eqb-symm a.0 b.0) (eqb-symm a.1 b.1)
    ∙ ap₂ (λ s t. ((b.0 == a.0) && (b.1 == a.1)) || (s && t)) (eqb-symm a.0 b.1) (eqb-symm a.1 b.0)
    ∙ ap (λ t. ((b.0 == a.0) && (b.1 == a.1)) || t) (and_comm (b.1 == a.0) (b.0 == a.1))

pub same_name-symm : (a b : List ℕ) → same_name a b ≡ same_name b a
same_name-symm a b = nat_list_eq_equiv.symm a b

-- where a test that is symmetric finds no item again, the place of an item is known by the item
differ : {X : Type 0} (same : X → X → Bool) → ((a b : X) → same a b ≡ same b a) → (xs : List X) (d : X) → has_again same xs ≡ false
    → (i j : ℕ) → i < length xs → j < length xs → same (get_or xs i d) (get_or xs j d) ≡ true → i ≡ j
differ same symm xs d none i j first second alike = elim (cases_lt i j) [
  | inl less ↦ absurd (true≢false (sym alike ∙ behind_differs same xs d none i j less second))
  | inr most ↦ elim (cases_lt j i) [
    | inl less ↦ absurd (true≢false (sym alike ∙ symm (get_or xs i d) (get_or xs j d) ∙ behind_differs same xs d none j i less first))
    | inr least ↦ omega arith
  ]
]

-- what passes each test is a grid
pub grid_of : (graph : Graph) → JoinsZones graph → zone_count graph ≤ 64 → has_again same_name graph.zones ≡ false → border_count graph ≤ 128
    → has_self_border graph.borders ≡ false → has_again same_ends graph.borders ≡ false → IsGrid graph
grid_of graph joins zones names borders loops pairs = record {
  is_graph = record {
    within = joins;
    apart = λ border within. eqb-false (ends_of graph border).0 (ends_of graph border).1
        (none_at (λ (ends : ℕ × ℕ). ends.0 == ends.1) graph.borders (0, 0) loops border within);
  };
  few_zones = zones;
  few_borders = borders;
  names_differ = λ zone other first second same.
      differ same_name same_name-symm graph.zones [] names zone other first second
      (ap (same_name (name_of graph zone)) (sym same) ∙ nat_list_eq_equiv.refl (name_of graph zone));
  ends_differ = λ border other first second same. differ same_ends same_ends-symm graph.borders (0, 0) pairs border other first second same;
}
