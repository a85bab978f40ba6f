-- Lots that come over ways to a zone, from the farthest zone inwards.
use Rattle.std.proofs.Common.{◌≡◌, ◌≢◌, ◌∙◌, ◌⊎◌, inl, inr, ℕ, ◌+◌, ◌-◌, ◌<◌, ◌≤◌, ◌==◌, Bool, true, false, List, filter, get_or, length, set, sum_by, eq-eqb, refl, sym, ap, subst, arith}
use Rattle.std.proofs.lemmas.Bool.{cases_lt, ne_eqb}
use Rattle.std.proofs.lemmas.Bool.Decides.{eqb_tells}
use Rattle.std.proofs.lemmas.List.{get_or-set_other, get_or-set_same, length-set}
use Rattle.order_kinds.specs.declared.side.Side.{Side}
use Rattle.zone_graph.specs.declared.route.Arc.{Arc}
use Rattle.zone_graph.specs.Graph.{Graph, HasArc, HasZone, IsGraph, arc_ends, arcs_of, end_of, start_of, zone_count}
use Rattle.zone_graph.specs.Grid.{IsGrid}
use Rattle.zone_graph.specs.Pour.{lots_if, opposite_arc, same_arc}
use Rattle.zone_graph.proofs.Arcs.{opposite-end, opposite-start, same_arc-is, same_arc-itself}
use Rattle.zone_graph.proofs.GridLemmas.{start_within}
use Rattle.zone_graph.proofs.Routes.{end_within}
use Rattle.cut_proof.proofs.ArcSums.{at_arc, exchanged, sum_at, sum_nothing, sum_parts, sum_passing}
use Rattle.local_view.specs.declared.ways.Way.{Way}
use Rattle.local_view.specs.Ways.{AreWays, IsBringing, IsSpread, arc_at, no_way, over}

-- before the first comes over a way each zone has what it shows
pub nothing_yet : (graph : Graph) (room : Arc → ℕ) (side : Side) (shown : List ℕ) (ways : List Way) (count : ℕ) (loads : List ℕ) → length shown ≡ 64 → length loads ≡ 64
    → IsBringing graph room side shown shown ways count loads count
nothing_yet graph room side shown ways count loads size places = record {
  size = size;
  places = places;
  flow = λ arc. 0;
  within = λ arc known. omega arith;
  unused = λ i less. refl;
  sent = λ i least less. absurd (omega (arith, least, less));
  none_back = λ i less. refl;
  balanced = λ other there. omega (arith, none (filter (λ arc. end_of graph arc == other) (arcs_of graph)), none (filter (λ arc. start_of graph arc == other) (arcs_of graph)));
}
  where
    none : (arcs : List Arc) → sum_by (λ (arc : Arc). 0) arcs ≡ 0
    none arcs = sum_nothing (λ (arc : Arc). 0) arcs (λ arc i. refl)

-- lots over one arc more
abbrev pub more_over : (Arc → ℕ) → Arc → (lots : ℕ) → Arc → ℕ
more_over flow arc lots other = flow other + at_arc (λ _. lots) arc other

pub sum_more : (graph : Graph) (flow : Arc → ℕ) (arc : Arc) (lots : ℕ) (test : Arc → Bool) → HasArc graph arc
    → sum_by (more_over flow arc lots) (filter test (arcs_of graph)) ≡ sum_by flow (filter test (arcs_of graph)) + lots_if (test arc) lots
sum_more graph flow arc lots test known =
    let turned : (λ (a : Arc). lots_if (test a) (at_arc (λ _. lots) arc a)) ≡ at_arc (λ a. lots_if (test a) lots) arc = λ i. λ a. exchanged (test a) (same_arc a arc) lots i in
    omega (
      arith,
      sum_parts (more_over flow arc lots) flow (at_arc (λ _. lots) arc) (filter test (arcs_of graph)) (λ a. refl),
      sum_passing test (at_arc (λ _. lots) arc) (arcs_of graph),
      ap (λ (f : Arc → ℕ). sum_by f (arcs_of graph)) turned,
      sum_at graph (λ a. lots_if (test a) lots) arc known,
    )

-- over no arc fewer
pub at_least : (flow : Arc → ℕ) (arc : Arc) (lots : ℕ) (other : Arc) → flow other ≤ more_over flow arc lots other
at_least flow arc lots other = omega arith

-- and over another arc as many
pub as_many : (flow : Arc → ℕ) (arc : Arc) (lots : ℕ) (other : Arc) → other ≢ arc → more_over flow arc lots other ≡ flow other
as_many flow arc lots other apart = by (same_arc other arc) refl
  where
    by : (t : Bool) → same_arc other arc ≡ t → more_over flow arc lots other ≡ flow other
    by false e = let none : lots_if (same_arc other arc) lots ≡ 0 = ap (λ t. lots_if t lots) e in omega (arith, none)
    by true e = absurd (apart (same_arc-is other arc e))

pub ends_differ : (graph : Graph) → IsGraph graph → (arc : Arc) → HasArc graph arc → start_of graph arc ≢ end_of graph arc
ends_differ graph is arc known = by arc.forward refl
  where
    by : (b : Bool) → arc.forward ≡ b → start_of graph arc ≢ end_of graph arc
    by true e = subst (λ (t : Bool). start_of graph (record { border = arc.border; forward = t }) ≢ end_of graph (record { border = arc.border; forward = t })) (sym e) (is.apart arc.border known)
    by false e = subst (λ (t : Bool). start_of graph (record { border = arc.border; forward = t }) ≢ end_of graph (record { border = arc.border; forward = t })) (sym e) (λ same. is.apart arc.border known (sym same))

-- no way goes back over the border of another
pub not_back : (graph : Graph) → IsGraph graph → (ways : List Way) (count : ℕ) → AreWays graph ways count → (i j : ℕ) → i < count → j < count
    → opposite_arc (arc_at ways i) ≢ arc_at ways j
not_back graph is ways count lead i j less there same = elim (eqb_tells i j) [
  | inl one ↦ ends_differ graph is (arc_at ways i) (lead.known i less) (end ∙ ap (λ k. end_of graph (arc_at ways k)) (sym one.1))
  | inr other ↦ by (cases_lt i j) other.1
]
  where
    start : start_of graph (arc_at ways j) ≡ end_of graph (arc_at ways i)
    start = ap (start_of graph) (sym same) ∙ opposite-start graph (arc_at ways i)

    end : start_of graph (arc_at ways i) ≡ end_of graph (arc_at ways j)
    end = sym (opposite-end graph (arc_at ways i)) ∙ ap (end_of graph) same

    by : (i < j) ⊎ (j ≤ i) → i ≢ j → ⊥
    by (inl before) apart = lead.onward i j before there end
    by (inr behind) apart = lead.onward j i (omega (arith, behind, apart)) less start

-- and none goes over an arc of another
pub not_again : (graph : Graph) (ways : List Way) (count : ℕ) → AreWays graph ways count → (i j : ℕ) → i < count → j < count → i ≢ j → arc_at ways i ≢ arc_at ways j
not_again graph ways count lead i j less there apart same = by (cases_lt i j)
  where
    by : (i < j) ⊎ (j ≤ i) → ⊥
    by (inl before) = lead.apart i j before there (ap (end_of graph) same)
    by (inr behind) = lead.apart j i (omega (arith, behind, apart)) less (sym (ap (end_of graph) same))

module _ (graph : Graph) (is : IsGraph graph) (room : Arc → ℕ) (side : Side) (shown load : List ℕ) (ways : List Way) (count : ℕ) (loads : List ℕ) (place : ℕ) (lead : AreWays graph ways count) (less : place < count) where
  abbrev pub arc : Arc
  arc = arc_at ways place

  abbrev pub near : ℕ
  near = start_of graph (arc_at ways place)

  abbrev pub far : ℕ
  far = end_of graph (arc_at ways place)

  abbrev lots : ℕ
  lots = get_or load (end_of graph (arc_at ways place)) 0

  abbrev changed : List ℕ
  changed = set (set load far 0) near (get_or load near 0 + get_or load far 0)

  known : HasArc graph arc
  known = lead.known place less

  differ : near ≢ far
  differ = ends_differ graph is arc known

  -- what the farther zone has comes to the nearer one
  pub brought : (few : zone_count graph ≤ 64) (after : ℕ) → after ≡ place + 1 → IsBringing graph room side shown load ways count loads after → get_or load far 0 ≤ room (over side arc)
      → IsBringing graph room side shown (set (set load far 0) near (get_or load near 0 + get_or load far 0)) ways count (set loads place (get_or load far 0)) place
  brought few after next b fits = record {
    size = length-set (set load far 0) near (get_or load near 0 + lots) ∙ length-set load far 0 ∙ b.size;
    places = length-set loads place lots ∙ b.places;
    flow = more_over b.flow arc lots;
    within = λ other there. by_arc other there (same_arc other arc) refl;
    unused = λ i sooner.
        as_many b.flow arc lots (arc_at ways i) (not_again graph ways count lead i place (omega (arith, sooner, less)) less (λ e. omega (arith, sooner, e)))
        ∙ b.unused i (omega (arith, sooner, next));
    sent = λ i least there. elim (eqb_tells i place) [
      | inl same ↦ subst (λ k. more_over b.flow arc lots (arc_at ways k) ≡ get_or (set loads place lots) k 0) (sym same.1) own_sent
      | inr other ↦
          as_many b.flow arc lots (arc_at ways i) (not_again graph ways count lead i place there less other.1)
          ∙ b.sent i (let apart = other.1 in omega (arith, least, apart, next)) there ∙ sym (get_or-set_other loads place i lots 0 other.1)
    ];
    none_back = λ i there. as_many b.flow arc lots (opposite_arc (arc_at ways i)) (not_back graph is ways count lead i place there less) ∙ b.none_back i there;
    balanced = λ other there.
        let old = b.balanced other there in
        let more_in = sum_more graph b.flow arc lots (λ a. end_of graph a == other) known in
        let more_out = sum_more graph b.flow arc lots (λ a. start_of graph a == other) known in
        elim (eqb_tells other near) [
          | inl same ↦
              let own : get_or changed other 0 ≡ get_or load near 0 + lots =
              ap (λ z. get_or changed z 0) same.1 ∙ get_or-set_same (set load far 0) near (get_or load near 0 + lots) 0 near_in in
              let was : get_or load other 0 ≡ get_or load near 0 = ap (λ z. get_or load z 0) same.1 in
              let none : lots_if (far == other) lots ≡ 0 = ap (λ t. lots_if t lots) (ne_eqb far other (λ e. differ (sym same.1 ∙ sym e))) in
              let all : lots_if (near == other) lots ≡ lots = ap (λ t. lots_if t lots) (eq-eqb near other (sym same.1)) in
              omega (arith, old, more_in, more_out, own, was, none, all)
          | inr apart ↦ elim (eqb_tells other far) [
            | inl same ↦
                let own : get_or changed other 0 ≡ 0 =
                get_or-set_other (set load far 0) near other (get_or load near 0 + lots) 0 apart.1
                ∙ ap (λ z. get_or (set load far 0) z 0) same.1 ∙ get_or-set_same load far 0 0 far_in in
                let was : get_or load other 0 ≡ lots = ap (λ z. get_or load z 0) same.1 in
                let all : lots_if (far == other) lots ≡ lots = ap (λ t. lots_if t lots) (eq-eqb far other (sym same.1)) in
                let none : lots_if (near == other) lots ≡ 0 = ap (λ t. lots_if t lots) (ne_eqb near other (λ e. apart.1 (sym e))) in
                omega (arith, old, more_in, more_out, own, was, none, all)
            | inr away ↦
                let own : get_or changed other 0 ≡ get_or load other 0 =
                get_or-set_other (set load far 0) near other (get_or load near 0 + lots) 0 apart.1 ∙ get_or-set_other load far other 0 0 away.1 in
                let none_in : lots_if (far == other) lots ≡ 0 = ap (λ t. lots_if t lots) (ne_eqb far other (λ e. away.1 (sym e))) in
                let none_out : lots_if (near == other) lots ≡ 0 = ap (λ t. lots_if t lots) (ne_eqb near other (λ e. apart.1 (sym e))) in
                omega (arith, old, more_in, more_out, own, none_in, none_out)
          ]
        ];
  }
    where
      far_in : far < length load
      far_in = let size = b.size in omega (arith, end_within graph arc is known, few, size)

      near_in : near < length (set load far 0)
      near_in = let size = b.size in omega (arith, start_within graph arc is known, few, size, length-set load far 0)

      all_over : (other : Arc) → other ≡ arc → more_over b.flow arc lots other ≡ lots
      all_over other e =
          let all : lots_if (same_arc other arc) lots ≡ lots = ap (λ t. lots_if t lots) (ap (λ a. same_arc a arc) e ∙ same_arc-itself arc) in
          let none : b.flow other ≡ 0 = ap b.flow e ∙ b.unused place (omega (arith, next)) in
          omega (arith, all, none)

      own_sent : more_over b.flow arc lots arc ≡ get_or (set loads place lots) place 0
      own_sent = all_over arc refl ∙ sym (get_or-set_same loads place lots 0 (let few_ways = lead.few in let places = b.places in omega (arith, few_ways, places, less)))

      by_arc : (other : Arc) → HasArc graph other → (t : Bool) → same_arc other arc ≡ t → b.flow other + at_arc (λ _. lots) arc other ≤ room (over side other)
      by_arc other there false e =
          let none : lots_if (same_arc other arc) lots ≡ 0 = ap (λ t. lots_if t lots) e in
          let old = b.within other there in omega (arith, none, old)
      by_arc other there true e =
          let same = same_arc-is other arc e in
          let own = all_over other same in
          let free : room (over side arc) ≡ room (over side other) = ap (λ a. room (over side a)) (sym same) in
          omega (arith, own, free, fits)

-- the same of the last way that is left, by its ends
pub brought_on : (graph : Graph) → IsGrid graph → (room : Arc → ℕ) (side : Side) (shown load : List ℕ) (ways : List Way) (count : ℕ) (loads : List ℕ) (place : ℕ) → AreWays graph ways count → place ≤ count → 0 < place
    → (near far : ℕ) → arc_ends graph (arc_at ways (place - 1)) ≡ (near, far) → (more : ℕ) → more ≡ get_or load near 0 + get_or load far 0
    → IsBringing graph room side shown load ways count loads place → get_or load far 0 ≤ room (over side (arc_at ways (place - 1)))
    → IsBringing graph room side shown (set (set load far 0) near more) ways count (set loads (place - 1) (get_or load far 0)) (place - 1)
brought_on graph grid room side shown load ways count loads place lead behind some near far ends more all b fits =
    subst (λ n. IsBringing graph room side shown (set (set load far 0) near n) ways count (set loads (place - 1) (get_or load far 0)) (place - 1)) (sym all)
    (subst (λ (e : ℕ × ℕ). get_or load e.1 0 ≤ room (over side (arc_at ways (place - 1)))
    → IsBringing graph room side shown (set (set load e.1 0) e.0 (get_or load e.0 0 + get_or load e.1 0)) ways count (set loads (place - 1) (get_or load e.1 0)) (place - 1)) ends
    (λ f. brought graph grid.is_graph room side shown load ways count loads (place - 1) lead (omega (arith, behind, some)) grid.few_zones place (omega (arith, some)) b f) fits)

-- a way leads between two zones
pub ends_there : (graph : Graph) → IsGraph graph → (ways : List Way) (count : ℕ) → AreWays graph ways count → (i : ℕ) → i < count
    → HasZone graph (get_or ways i no_way).near × HasZone graph (get_or ways i no_way).far
ends_there graph is ways count lead i less =
    subst (λ (e : ℕ × ℕ). HasZone graph e.0 × HasZone graph e.1) (lead.ends i less) (start_within graph (arc_at ways i) is (lead.known i less), end_within graph (arc_at ways i) is (lead.known i less))

-- where no other zone has anything left, all flows out from the root
pub all_brought : (graph : Graph) (room : Arc → ℕ) (side : Side) (zone : ℕ) (shown load : List ℕ) (ways : List Way) (count : ℕ) (loads : List ℕ) → HasZone graph zone → IsBringing graph room side shown load ways count loads 0
    → ((other : ℕ) → HasZone graph other → other ≢ zone → get_or load other 0 ≡ 0) → IsSpread graph room side shown ways count loads (get_or load zone 0) 0 zone
all_brought graph room side zone shown load ways count loads known b none = record {
  flow = b.flow;
  within = λ arc there. let old = b.within arc there in omega (arith, old);
  outwards = λ i least there. let own = b.sent i least there in let back = b.none_back i there in omega (arith, own, back);
  own = b.balanced zone known;
  others = λ other there apart. let nothing = none other there apart in let all = b.balanced other there in omega (arith, nothing, all);
}
