-- Ways from a zone, of which one more is added.
use Rattle.std.proofs.Common.{◌≡◌, ◌≢◌, ◌∙◌, inl, inr, ℕ, ◌+◌, ◌<◌, Bool, true, false, List, get_or, length, replicate, set, zero, suc, refl, sym, ap, subst, arith}
use Rattle.std.proofs.lemmas.Bool.{true≢false}
use Rattle.std.proofs.lemmas.Bool.Decides.{eqb_tells}
use Rattle.std.proofs.lemmas.List.{get_or-set_other, get_or-set_same, length-set}
use Rattle.std.proofs.lemmas.List.Sums.{sum_by-set}
use Rattle.zone_graph.specs.Graph.{Graph, HasArc, arc_ends, end_of, start_of}
use Rattle.local_view.specs.declared.ways.Way.{Way}
use Rattle.local_view.specs.Ways.{AreFound, AreWays, free_places, arc_at, if_free, no_way}

spaces : (found : List Bool) (zone : ℕ) → zone < length found → get_or found zone false ≡ false → free_places (set found zone true) + 1 ≡ free_places found
spaces found zone within none =
    let changed = sum_by-set if_free found zone true false within in
    let one : if_free (get_or found zone false) ≡ 1 = ap if_free none in
    omega (arith, changed, one)

-- so there is a place for one more
pub place_free : (graph : Graph) (ways : List Way) (count : ℕ) (found : List Bool) (to : ℕ) → AreFound graph ways count found → to < 64 → get_or found to false ≡ false → count + 1 < 64
place_free graph ways count found to are within none =
    let flags = are.flags in
    let free = are.free in
    omega (arith, spaces found to (omega (arith, within, flags)) none, free)

-- what holds of each way, and of the new one
at_new : (ways : List Way) (count : ℕ) (way : Way) (P : Way → Type 0) (i : ℕ) → count < length ways → i < count + 1 → P way → (i < count → P (get_or ways i no_way))
    → P (get_or (set ways count way) i no_way)
at_new ways count way P i within less new old = elim (eqb_tells i count) [
  | inl same ↦ subst P (sym (ap (λ k. get_or (set ways count way) k no_way) same.1 ∙ get_or-set_same ways count way no_way within)) new
  | inr other ↦ subst P (sym (get_or-set_other ways count i way no_way other.1)) (old (let apart = other.1 in omega (arith, less, apart)))
]

-- a zone that is found stays so
pub still_found : (found : List Bool) (to zone : ℕ) → to < length found → get_or found zone false ≡ true → get_or (set found to true) zone false ≡ true
still_found found to zone there is = elim (eqb_tells zone to) [
  | inl same ↦ ap (λ z. get_or (set found to true) z false) same.1 ∙ get_or-set_same found to true false there
  | inr other ↦ get_or-set_other found to zone true false other.1 ∙ is
]

pub found_more : (graph : Graph) (ways : List Way) (count : ℕ) (found : List Bool) (way : Way) → AreFound graph ways count found → HasArc graph way.arc
    → start_of graph way.arc ≡ way.near → get_or found way.near false ≡ true → end_of graph way.arc ≡ way.far → way.far < 64 → get_or found way.far false ≡ false
    → AreFound graph (set ways count way) (count + 1) (set found way.far true)
found_more graph ways count found way are known start begun end within none = record {
  flags = length-set found way.far true ∙ are.flags;
  places = length-set ways count way ∙ are.places;
  known = λ i less. at_new ways count way (λ w. HasArc graph w.arc) i room less known (are.known i);
  ends = λ i less. at_new ways count way (λ w. arc_ends graph w.arc ≡ (w.near, w.far)) i room less (λ k. (start k, end k)) (are.ends i);
  reached = λ i less.
      at_new ways count way (λ w. get_or (set found way.far true) (end_of graph w.arc) false ≡ true) i room less
      (ap (λ z. get_or (set found way.far true) z false) end ∙ get_or-set_same found way.far true false there) (λ old. still_found found way.far (end_of graph (arc_at ways i)) there (are.reached i old));
  begun = λ i less.
      at_new ways count way (λ w. get_or (set found way.far true) (start_of graph w.arc) false ≡ true) i room less
      (still_found found way.far (start_of graph way.arc) there (ap (λ z. get_or found z false) start ∙ begun))
      (λ old. still_found found way.far (start_of graph (arc_at ways i)) there (are.begun i old));
  apart = λ i j before less.
      subst (λ (w : Way). end_of graph w.arc ≢ end_of graph (arc_at (set ways count way) j)) (sym (get_or-set_other ways count i way no_way (sooner i j before less)))
      (at_new ways count way (λ w. end_of graph (arc_at ways i) ≢ end_of graph w.arc) j room less
      (λ same. true≢false (sym (are.reached i (omega (arith, before, less))) ∙ ap (λ z. get_or found z false) (same ∙ end) ∙ none))
      (λ old. are.apart i j before old));
  onward = λ i j before less.
      subst (λ (w : Way). start_of graph w.arc ≢ end_of graph (arc_at (set ways count way) j)) (sym (get_or-set_other ways count i way no_way (sooner i j before less)))
      (at_new ways count way (λ w. start_of graph (arc_at ways i) ≢ end_of graph w.arc) j room less
      (λ same. true≢false (sym (are.begun i (omega (arith, before, less))) ∙ ap (λ z. get_or found z false) (same ∙ end) ∙ none))
      (λ old. are.onward i j before old));
  free = (let free = are.free in omega (arith, spaces found way.far there none, free));
}
  where
    there : way.far < length found
    there = let flags = are.flags in omega (arith, within, flags)

    room : count < length ways
    room = let places = are.places in omega (arith, place_free graph ways count found way.far are within none, places)

    sooner : (i j : ℕ) → i < j → j < count + 1 → i ≢ count
    sooner i j before less same = omega (arith, before, less, same)

-- those that were found are ways
pub all_found : (graph : Graph) (ways : List Way) (count : ℕ) (found : List Bool) → AreFound graph ways count found → AreWays graph ways count
all_found graph ways count found are = record {
  places = are.places;
  few = (let free = are.free in omega (arith, free));
  known = are.known;
  ends = are.ends;
  apart = are.apart;
  onward = are.onward;
}

-- before the first is added the zone alone is found that they lead from
pub alone_found : (graph : Graph) (ways : List Way) (zone : ℕ) → length ways ≡ 64 → zone < 64 → AreFound graph ways 0 (set (replicate 64 false) zone true)
alone_found graph ways zone size within = record {
  flags = length-set (replicate 64 false) zone true;
  places = size;
  known = λ i less. absurd (omega (arith, less));
  ends = λ i less. absurd (omega (arith, less));
  reached = λ i less. absurd (omega (arith, less));
  begun = λ i less. absurd (omega (arith, less));
  apart = λ i j before less. absurd (omega (arith, less));
  onward = λ i j before less. absurd (omega (arith, less));
  free = (let all : free_places (replicate 64 false) ≡ 64 = refl in
      let flags : length (replicate 64 false) ≡ 64 = refl in
      omega (arith, spaces (replicate 64 false) zone (omega (arith, within, flags)) (none-set 64 zone), all));
}
  where
    none-set : (count k : ℕ) → get_or (replicate count false) k false ≡ false
    none-set zero k = refl
    none-set (suc count) zero = refl
    none-set (suc count) (suc k) = none-set count k

-- the same of what a step left
pub found_as : (graph : Graph) (ways others : List Way) (count many : ℕ) (found new : List Bool) → ways ≡ others → count ≡ many → found ≡ new → AreFound graph others many new → AreFound graph ways count found
found_as graph ways others count many found new same as_many is are =
    subst (λ list. AreFound graph list count found) (sym same) (subst (λ n. AreFound graph others n found) (sym as_many) (subst (AreFound graph others many) (sym is) are))
