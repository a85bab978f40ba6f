-- Lots that flow out from a zone, and instead from one beyond an arc.
use Rattle.std.proofs.Common.{◌≡◌, ◌≢◌, ◌∙◌, inl, inr, ℕ, ◌+◌, ◌-◌, ◌*◌, ◌%◌, ◌^◌, ◌<◌, ◌≤◌, ◌==◌, ◌||◌, Bool, true, false, List, filter, get_or, sum_by, eq-eqb, refl, sym, ap, subst, arith}
use Rattle.std.proofs.lemmas.Bool.{ne_eqb, true≢false}
use Rattle.std.proofs.lemmas.Bool.Decides.{eqb_tells}
use Rattle.std.proofs.lemmas.Nat.Bits.{bit_at_set_other}
use Rattle.std.specs.Int.{w64}
use Rattle.std.specs.Int.RustNames.{bit_or}
use Rattle.order_kinds.specs.declared.side.Side.{Side}
use Rattle.order_kinds.specs.declared.side.Side.TheVariants.{Buy, Sell}
use Rattle.zone_graph.specs.declared.route.Arc.{Arc}
use Rattle.zone_graph.specs.Graph.{Graph, HasArc, HasZone, IsGraph, arc_ends, arcs_of, end_of, start_of}
use Rattle.zone_graph.specs.Pour.{lots_if, opposite_arc, same_arc}
use Rattle.zone_graph.proofs.Arcs.{opposite-end, opposite-start, opposite-twice, same_arc-is, same_arc-itself}
use Rattle.zone_graph.proofs.GridLemmas.{start_within}
use Rattle.zone_graph.proofs.Routes.{end_within}
use Rattle.cut_proof.specs.ZoneSet.{holds}
use Rattle.cut_proof.proofs.ArcSums.{sum_balance, sum_opposite, sum_passing}
use Rattle.route_choice.specs.Flow.{sent_out, taken_in}
use Rattle.local_view.specs.declared.ways.Way.{Way}
use Rattle.local_view.specs.Ways.{AreWays, ComeTogether, IsSpread, arc_at, over}
use Rattle.local_view.proofs.Bits.{holds-or, holds-zero}
use Rattle.local_view.proofs.Bringing.{as_many, at_least, ends_differ, more_over, not_again, sum_more}

-- ---- from the near zone of a way to the far one

module _ (graph : Graph) (is : IsGraph graph) (room : Arc → ℕ) (side : Side) (shown : List ℕ) (ways : List Way) (count : ℕ) (loads : List ℕ) (all : ℕ) (lead : AreWays graph ways count) (place : ℕ) (less : place < count) where
  abbrev pub arc : Arc
  arc = arc_at ways place

  abbrev pub near : ℕ
  near = start_of graph (arc_at ways place)

  abbrev pub far : ℕ
  far = end_of graph (arc_at ways place)

  abbrev pub back : Arc
  back = opposite_arc (arc_at ways place)

  known : HasArc graph back
  known = lead.known place less

  differ : near ≢ far
  differ = ends_differ graph is arc (lead.known place less)

  -- what flows out from the near zone flows out from the far one, where all goes over the opposite arc first
  pub passed_on : all - get_or loads place 0 ≤ room (over side back) → IsSpread graph room side shown ways count loads all place near
      → IsSpread graph room side shown ways count loads all (place + 1) far
  passed_on fits s = record {
    flow = more_over s.flow back all;
    within = λ other there. by_arc other there (same_arc other back) refl;
    outwards = λ i least there.
        let old = s.outwards i (omega (arith, least)) there in
        let same = as_many s.flow back all (opposite_arc (arc_at ways i))
        (λ e. not_again graph ways count lead i place there less (λ k. omega (arith, least, k)) (sym (opposite-twice (arc_at ways i)) ∙ ap opposite_arc e ∙ opposite-twice arc)) in
        omega (arith, old, same, at_least s.flow back all (arc_at ways i));
    own = (let old = s.others far (end_within graph arc is known) (λ e. differ (sym e)) in
        let none : lots_if (end_of graph back == far) all ≡ 0 = ap (λ t. lots_if t all) (ne_eqb (end_of graph back) far (λ e. differ (sym (opposite-end graph arc) ∙ e))) in
        let more : lots_if (start_of graph back == far) all ≡ all = ap (λ t. lots_if t all) (eq-eqb (start_of graph back) far (opposite-start graph arc)) in
        omega (arith, old, into far, out far, none, more));
    others = λ other there apart. elim (eqb_tells other near) [
      | inl same ↦
          subst (λ z. taken_in graph (more_over s.flow back all) z ≡ sent_out graph (more_over s.flow back all) z + get_or shown z 0) (sym same.1)
          (let old = s.own in
          let more : lots_if (end_of graph back == near) all ≡ all = ap (λ t. lots_if t all) (eq-eqb (end_of graph back) near (opposite-end graph arc)) in
          let none : lots_if (start_of graph back == near) all ≡ 0 = ap (λ t. lots_if t all) (ne_eqb (start_of graph back) near (λ e. differ (sym e ∙ opposite-start graph arc))) in
          omega (arith, old, into near, out near, none, more))
      | inr away ↦
          let old = s.others other there away.1 in
          let none_in : lots_if (end_of graph back == other) all ≡ 0 = ap (λ t. lots_if t all) (ne_eqb (end_of graph back) other (λ e. away.1 (sym e ∙ opposite-end graph arc))) in
          let none_out : lots_if (start_of graph back == other) all ≡ 0 = ap (λ t. lots_if t all) (ne_eqb (start_of graph back) other (λ e. apart (sym e ∙ opposite-start graph arc))) in
          omega (arith, old, into other, out other, none_in, none_out)
    ];
  }
    where
      into : (zone : ℕ) → taken_in graph (more_over s.flow back all) zone ≡ taken_in graph s.flow zone + lots_if (end_of graph back == zone) all
      into zone = sum_more graph s.flow back all (λ a. end_of graph a == zone) known

      out : (zone : ℕ) → sent_out graph (more_over s.flow back all) zone ≡ sent_out graph s.flow zone + lots_if (start_of graph back == zone) all
      out zone = sum_more graph s.flow back all (λ a. start_of graph a == zone) known

      -- over the opposite arc, since as many lots come back over the way
      over_back : s.flow back + all ≤ room (over side back) + s.flow arc
      over_back = let back_and_own = s.outwards place (omega arith) less in omega (arith, back_and_own, fits)

      by_arc : (other : Arc) → HasArc graph other → (t : Bool) → same_arc other back ≡ t
          → more_over s.flow back all other ≤ room (over side other) + more_over s.flow back all (opposite_arc other)
      by_arc other there false e =
          let none : lots_if (same_arc other back) all ≡ 0 = ap (λ t. lots_if t all) e in
          let old = s.within other there in
          omega (arith, none, old, at_least s.flow back all (opposite_arc other))
      by_arc other there true e =
          subst (λ a. more_over s.flow back all a ≤ room (over side a) + more_over s.flow back all (opposite_arc a)) (sym (same_arc-is other back e))
          (let own : lots_if (same_arc back back) all ≡ all = ap (λ t. lots_if t all) (same_arc-itself back) in
          let way : s.flow (opposite_arc back) ≡ s.flow arc = ap s.flow (opposite-twice arc) in
          omega (arith, own, way, over_back, at_least s.flow back all (opposite_arc back)))

-- ---- sets of zones

module _ (graph : Graph) (room : Arc → ℕ) (side : Side) (shown : List ℕ) (ways : List Way) (count : ℕ) (loads : List ℕ) (all : ℕ) where
  -- all flows out from each zone of a set
  abbrev pub AreSpread : (place whole : ℕ) → Type 0
  AreSpread place whole = (zone : ℕ) → HasZone graph zone → holds whole zone ≡ true → IsSpread graph room side shown ways count loads all place zone

  later : (place zone : ℕ) → IsSpread graph room side shown ways count loads all place zone → IsSpread graph room side shown ways count loads all (place + 1) zone
  later place zone s = record {
    flow = s.flow;
    within = s.within;
    outwards = λ i least there. s.outwards i (omega (arith, least)) there;
    own = s.own;
    others = s.others;
  }

  -- at first it is the root alone
  pub root_spread : (root : ℕ) → root < 64 → IsSpread graph room side shown ways count loads all 0 root → AreSpread 0 (1 * 2 ^ root % 2 ^ 64)
  root_spread root small s zone there is_set = elim (eqb_tells zone root) [
    | inl same ↦ subst (IsSpread graph room side shown ways count loads all 0) (sym same.1) s
    | inr other ↦ absurd (true≢false (sym is_set ∙ alone other.1))
  ]
    where
      alone : zone ≢ root → holds (1 * 2 ^ root % 2 ^ 64) zone ≡ false
      alone apart =
          sym (holds-or 0 (1 * 2 ^ root % 2 ^ 64) zone ∙ ap (λ b. b || holds (1 * 2 ^ root % 2 ^ 64) zone) (holds-zero zone))
          ∙ ap (λ n. n == 1) (bit_at_set_other w64 0 root small zone apart) ∙ holds-zero zone

  pub none_more : (place whole : ℕ) → AreSpread place whole → AreSpread (place + 1) whole
  none_more place whole are zone there is_set = later place zone (are zone there is_set)

  -- the far zone of a way, where the near one is in the set
  pub one_more : IsGraph graph → AreWays graph ways count → (place : ℕ) → place < count → (start end : ℕ) → arc_ends graph (arc_at ways place) ≡ (start, end) → end < 64 → (whole : ℕ) → AreSpread place whole
      → holds whole start ≡ true → all - get_or loads place 0 ≤ room (over side (opposite_arc (arc_at ways place)))
      → AreSpread (place + 1) (bit_or whole (1 * 2 ^ end % 2 ^ 64))
  one_more is lead place less start end ends small whole are is_near fits zone there is_set = elim (eqb_tells zone end) [
    | inl same ↦
        subst (IsSpread graph room side shown ways count loads all (place + 1)) (ap (λ (e : ℕ × ℕ). e.1) ends ∙ sym same.1)
        (passed_on graph is room side shown ways count loads all lead place less fits
        (are (start_of graph (arc_at ways place)) (start_within graph (arc_at ways place) is (lead.known place less)) (ap (λ (e : ℕ × ℕ). holds whole e.0) ends ∙ is_near)))
    | inr other ↦ later place zone (are zone there (sym (ap (λ n. n == 1) (bit_at_set_other w64 whole end small zone other.1)) ∙ is_set))
  ]

-- ---- all together

-- what flows over an arc beyond what flows back
abbrev net : (Arc → ℕ) → Arc → ℕ
net flow arc = flow arc - flow (opposite_arc arc)

-- what flows back over the arcs into a zone is what flows over those out of it, and the other way round
turned : (graph : Graph) (flow : Arc → ℕ) (test : ℕ → Bool) (one two : Arc → ℕ) → ((arc : Arc) → two (opposite_arc arc) ≡ one arc)
    → sum_by (λ arc. flow (opposite_arc arc)) (filter (λ arc. test (one arc)) (arcs_of graph)) ≡ sum_by flow (filter (λ arc. test (two arc)) (arcs_of graph))
turned graph flow test one two ends =
    let same : (λ (arc : Arc). lots_if (test (one arc)) (flow (opposite_arc arc))) ≡ (λ (arc : Arc). lots_if (test (two (opposite_arc arc))) (flow (opposite_arc arc))) =
    λ i. λ arc. lots_if (test (sym (ends arc) i)) (flow (opposite_arc arc)) in
    sum_passing (λ arc. test (one arc)) (λ arc. flow (opposite_arc arc)) (arcs_of graph)
    ∙ ap (λ (f : Arc → ℕ). sum_by f (arcs_of graph)) same
    ∙ sum_opposite graph (λ arc. lots_if (test (two arc)) (flow arc))
    ∙ sym (sum_passing (λ arc. test (two arc)) flow (arcs_of graph))

-- without what flows back a zone still sends out as much more or less than it takes in
net_balance : (graph : Graph) (flow : Arc → ℕ) (zone : ℕ) → taken_in graph (net flow) zone + sent_out graph flow zone ≡ taken_in graph flow zone + sent_out graph (net flow) zone
net_balance graph flow zone =
    let parts = sum_balance (net flow) (λ arc. flow (opposite_arc arc)) flow (λ arc. net flow (opposite_arc arc)) (filter (λ arc. end_of graph arc == zone) (arcs_of graph)) each in
    let plain = turned graph flow (λ z. z == zone) (end_of graph) (start_of graph) (opposite-start graph) in
    let netted = turned graph (net flow) (λ z. z == zone) (end_of graph) (start_of graph) (opposite-start graph) in
    omega (arith, parts, plain, netted)
  where
    each : (arc : Arc) → net flow arc + flow (opposite_arc arc) ≡ flow arc + net flow (opposite_arc arc)
    each arc = let twice : flow (opposite_arc (opposite_arc arc)) ≡ flow arc = ap flow (opposite-twice arc) in omega (arith, twice)

pub together : (graph : Graph) (room : Arc → ℕ) (side : Side) (shown : List ℕ) (ways : List Way) (count : ℕ) (loads : List ℕ) (all place zone : ℕ)
    → IsSpread graph room side shown ways count loads all place zone → ComeTogether graph room side zone shown
together graph room Buy shown ways count loads all place zone s = record {
  flow = net s.flow;
  within = λ arc there. let most = s.within arc there in omega (arith, most);
  balanced = λ other there apart. let old = s.others other there apart in omega (arith, old, net_balance graph s.flow other);
}
together graph room Sell shown ways count loads all place zone s = record {
  flow = λ arc. net s.flow (opposite_arc arc);
  within = λ arc there. subst (λ a. net s.flow (opposite_arc arc) ≤ room a) (opposite-twice arc) (let most = s.within (opposite_arc arc) there in omega (arith, most));
  balanced = λ other there apart.
      let old = s.others other there apart in
      let out = turned graph (net s.flow) (λ z. z == other) (start_of graph) (end_of graph) (opposite-end graph) in
      let into = turned graph (net s.flow) (λ z. z == other) (end_of graph) (start_of graph) (opposite-start graph) in
      omega (arith, old, net_balance graph s.flow other, out, into);
}
