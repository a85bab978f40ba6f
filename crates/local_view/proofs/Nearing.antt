-- The zones near touched ones, as a search finds them.
use Rattle.std.proofs.Common.{◌≡◌, ◌∙◌, inl, inr, ℕ, zero, suc, ◌+◌, ◌*◌, ◌-◌, ◌%◌, ◌^◌, ◌<◌, ◌==◌, ◌&&◌, Bool, true, false, List, [], ◌∷◌, length, refl, sym, ap, subst, arith}
use Rattle.std.proofs.lemmas.Bool.{cases_lt, true≢false}
use Rattle.std.proofs.lemmas.Bool.Decides.{eqb_tells}
use Rattle.std.proofs.lemmas.List.Folds.{list_any_at}
use Rattle.std.proofs.lemmas.List.FromFn.{get_or-range_with_len, length-range_with_len}
use Rattle.std.proofs.lemmas.Nat.Bits.{bit_at_ones_above, bit_at_set_other}
use Rattle.std.specs.Int.{w64}
use Rattle.std.specs.Int.RustNames.{bit_and, bit_or, count_ones}
use Rattle.std.specs.List.{list_any, range_with_len}
use Rattle.order_kinds.specs.declared.side.Side.{Side}
use Rattle.order_kinds.specs.declared.side.Side.TheVariants.{Buy, Sell}
use Rattle.cut_proof.specs.ZoneSet.{holds}
use Rattle.cut_proof.proofs.ReachLaws.{reaches-way, way-reaches}
use Rattle.cut_proof.proofs.Reaching.{way_turned}
use Rattle.zone_graph.specs.declared.route.Arc.{Arc}
use Rattle.zone_graph.specs.Graph.{Graph, HasArc, HasZone, IsGraph, end_of, start_of, zone_count}
use Rattle.zone_graph.specs.Pour.{opposite_arc}
use Rattle.zone_graph.specs.Route.{IsWay}
use Rattle.zone_graph.proofs.Arcs.{opposite-twice}
use Rattle.zone_graph.proofs.GridLemmas.{start_within}
use Rattle.zone_graph.proofs.Membership.{from_range}
use Rattle.laws_of_market.proofs.Restrict.{filter-same}
use Rattle.local_view.specs.Nearness.{is_joined, is_near, near_count}
use Rattle.local_view.specs.Ways.{AreJoined, over}
use Rattle.local_view.proofs.Bits.{both_true, holds-and, holds-first, holds-or, holds-zero, one_true, ones-counted, or_first, or_second}

-- ---- ways

-- a zone that can trade with a taker in a zone has a way there by which lots come or go
joined_way : (graph : Graph) (room : Arc → ℕ) (side : Side) (zone other : ℕ) → IsGraph graph → is_joined graph room side zone other ≡ true
    → (arcs : List Arc) × IsWay graph (λ arc. room (over side arc)) zone arcs other
joined_way graph room Buy zone other is there = way-reaches graph room zone other is there
joined_way graph room Sell zone other is there =
    let way = way-reaches graph room other zone is there in
    let back = way_turned graph room (λ arc. room (opposite_arc arc)) other zone way.0 (λ arc some. subst (λ a. 0 < room a) (sym (opposite-twice arc)) some) way.1 in
    (back.0, back.1)

way_joined : (graph : Graph) (room : Arc → ℕ) (side : Side) (zone other : ℕ) (arcs : List Arc) → IsGraph graph → IsWay graph (λ arc. room (over side arc)) zone arcs other
    → is_joined graph room side zone other ≡ true
way_joined graph room Buy zone other arcs is way = reaches-way graph room zone other arcs is way
way_joined graph room Sell zone other arcs is way =
    let back = way_turned graph (λ arc. room (opposite_arc arc)) room zone other arcs (λ arc some. some) way in
    reaches-way graph room other zone back.0 is back.1

-- ---- a search

-- a zone has such a way to a touched one
pub record IsNear (graph : Graph) (room : Arc → ℕ) (side : Side) (touched zone : ℕ) : Type 0 where
  pub there : HasZone graph zone
  pub other : ℕ
  pub known : HasZone graph other
  pub is_touched : holds touched other ≡ true
  pub arcs : List Arc
  pub way : IsWay graph (λ arc. room (over side arc)) zone arcs other

-- the zones found are near, the touched ones are found, and those that arcs join with one that was asked
pub record IsSearch (graph : Graph) (room : Arc → ℕ) (side : Side) (touched near asked : ℕ) : Type 0 where
  pub sound : (zone : ℕ) → holds near zone ≡ true → IsNear graph room side touched zone
  pub seeds : (zone : ℕ) → HasZone graph zone → holds touched zone ≡ true → holds near zone ≡ true
  pub closed : (arc : Arc) → HasArc graph arc → holds asked (end_of graph arc) ≡ true → 0 < room (over side arc) → holds near (start_of graph arc) ≡ true

-- all that are near are found
pub record IsFound (graph : Graph) (room : Arc → ℕ) (side : Side) (touched near : ℕ) : Type 0 where
  pub sound : (zone : ℕ) → holds near zone ≡ true → IsNear graph room side touched zone
  pub all : (zone : ℕ) → IsNear graph room side touched zone → holds near zone ≡ true

passing : (p : ℕ → Bool) (from count : ℕ) → list_any p (range_with_len from count) ≡ true → (k : ℕ) × (k < from + count) × (p k ≡ true)
passing p from zero e = absurd (true≢false (sym e))
passing p from (suc count) e = elim (one_true (p from) (list_any p (range_with_len (from + 1) count)) e) [
  | inl here ↦ (from, omega arith, here)
  | inr later ↦ let r = passing p (from + 1) count later in (r.0, let within = r.1 in omega (arith, within), r.2)
]

module _ (graph : Graph) (is : IsGraph graph) (room : Arc → ℕ) (side : Side) (touched : ℕ) where
  pub begun : IsSearch graph room side touched (bit_and touched (2 ^ zone_count graph - 1)) 0
  begun = record {
    sound = λ zone is_there.
        let both = both_true (holds touched zone) (holds (2 ^ zone_count graph - 1) zone) (sym (holds-and touched (2 ^ zone_count graph - 1) zone) ∙ is_there) in
        let there = within zone both.1 in
        record { there = there; other = zone; known = there; is_touched = both.0; arcs = []; way = refl };
    seeds = λ zone there own.
        holds-and touched (2 ^ zone_count graph - 1) zone ∙ ap (λ b. b && holds (2 ^ zone_count graph - 1) zone) own ∙ holds-first (zone_count graph) zone there;
    closed = λ arc known asked some. absurd (true≢false (sym asked ∙ holds-zero (end_of graph arc)));
  }
    where
      within : (zone : ℕ) → holds (2 ^ zone_count graph - 1) zone ≡ true → HasZone graph zone
      within zone e = elim (cases_lt zone (zone_count graph)) [
        | inl less ↦ less
        | inr least ↦ absurd (true≢false (sym e ∙ ap (λ n. n == 1) (bit_at_ones_above (zone_count graph) zone least)))
      ]

  pub asked_more : (near asked zone joined : ℕ) → zone < 64 → holds near zone ≡ true → AreJoined graph room side zone joined → IsSearch graph room side touched near asked
      → IsSearch graph room side touched (bit_or near joined) (bit_or asked (1 * 2 ^ zone % 2 ^ 64))
  asked_more near asked zone joined small found are search = record {
    sound = λ other e. elim (one_true (holds near other) (holds joined other) (sym (holds-or near joined other) ∙ e)) [
      | inl before ↦ search.sound other before
      | inr new ↦
          let by = are.by other new in
          let on = search.sound zone found in
          record {
            there = subst (HasZone graph) by.2 (start_within graph by.0 is by.1);
            other = on.other;
            known = on.known;
            is_touched = on.is_touched;
            arcs = by.0 ∷ on.arcs;
            way = (by.1, by.2, by.4, subst (λ z. IsWay graph (λ arc. room (over side arc)) z on.arcs on.other) (sym by.3) on.way);
          }
    ];
    seeds = λ other there own. holds-or near joined other ∙ or_first (holds near other) (holds joined other) (search.seeds other there own);
    closed = λ arc known e some. holds-or near joined (start_of graph arc) ∙ elim (eqb_tells (end_of graph arc) zone) [
      | inl same ↦ or_second (holds near (start_of graph arc)) (holds joined (start_of graph arc)) (are.all arc known same.1 some)
      | inr apart ↦ or_first (holds near (start_of graph arc)) (holds joined (start_of graph arc))
          (search.closed arc known (sym (ap (λ n. n == 1) (bit_at_set_other w64 asked zone small (end_of graph arc) apart.1)) ∙ e) some)
    ];
  }

  -- where each zone found was asked no other is near
  pub all_asked : (near asked : ℕ) → ((zone : ℕ) → holds near zone ≡ true → holds asked zone ≡ true) → IsSearch graph room side touched near asked
      → IsFound graph room side touched near
  all_asked near asked each search = record {
    sound = search.sound;
    all = λ zone own. along zone own.other own.arcs own.known own.is_touched own.way;
  }
    where
      along : (zone other : ℕ) (arcs : List Arc) → HasZone graph other → holds touched other ≡ true → IsWay graph (λ arc. room (over side arc)) zone arcs other → holds near zone ≡ true
      along zone other [] known own way = ap (holds near) way ∙ search.seeds other known own
      along zone other (arc ∷ arcs) known own way =
          ap (holds near) (sym way.1) ∙ search.closed arc way.0 (each (end_of graph arc) (along (end_of graph arc) other arcs known own way.3)) way.2

  -- nor where all zones are found
  pub all_zones : (near asked : ℕ) → near ≡ 2 ^ zone_count graph - 1 → IsSearch graph room side touched near asked → IsFound graph room side touched near
  all_zones near asked are search = record {
    sound = search.sound;
    all = λ zone own. ap (λ n. holds n zone) are ∙ holds-first (zone_count graph) zone own.there;
  }

  -- so the zones found are those that the definition says
  pub found_are : (near : ℕ) → IsFound graph room side touched near → (zone : ℕ) → HasZone graph zone → holds near zone ≡ is_near graph room side touched zone
  found_are near found zone there = by (holds near zone) (is_near graph room side touched zone) refl refl
    where
      counts : ℕ → Bool
      counts other = holds touched other && is_joined graph room side zone other

      plain : (k : ℕ) → 0 + k ≡ k
      plain k = omega arith

      by : (a b : Bool) → holds near zone ≡ a → is_near graph room side touched zone ≡ b → a ≡ b
      by true true e f = refl
      by false false e f = refl
      by true false e f =
          let own = found.sound zone e in
          let there_too = list_any_at counts (range_with_len 0 (zone_count graph)) own.other 0 (let all = length-range_with_len 0 (zone_count graph) in let known = own.known in omega (arith, all, known))
          (ap counts (get_or-range_with_len 0 (zone_count graph) own.other 0 own.known ∙ plain own.other)
          ∙ ap (λ b. b && is_joined graph room side zone own.other) own.is_touched ∙ way_joined graph room side zone own.other own.arcs is own.way) in
          absurd (true≢false (sym there_too ∙ f))
      by false true e f =
          let one = passing counts 0 (zone_count graph) f in
          let both = both_true (holds touched one.0) (is_joined graph room side zone one.0) one.2 in
          let way = joined_way graph room side zone one.0 is both.1 in
          absurd (true≢false (sym (found.all zone (record { there = there; other = one.0; known = (let within = one.1 in omega (arith, within)); is_touched = both.0; arcs = way.0; way = way.1 })) ∙ e))

  -- as many as the definition counts
  pub found_count : (near : ℕ) → IsFound graph room side touched near → count_ones near ≡ near_count graph room side touched
  found_count near found =
      ones-counted near (zone_count graph) (λ zone e. (found.sound zone e).there)
      ∙ ap length (filter-same (holds near) (is_near graph room side touched) (range_with_len 0 (zone_count graph))
      (λ zone i. found_are near found zone (let within = (from_range zone 0 (zone_count graph) i).1 in omega (arith, within))))
