-- What the links of all rings keep when a place leaves a ring or joins one.
use Rattle.std.proofs.Common.{◌≡◌, ◌≢◌, inl, inr, ℕ, ◌+◌, ◌-◌, ◌<◌, ◌≤◌, List, [], ◌∷◌, ◌++◌, length, get_or, set, sum_by, refl, sym, ap, ◌∙◌, subst, arith, length-append, append_assoc}
use Rattle.std.proofs.lemmas.Bool.{cases_eq}
use Rattle.std.proofs.lemmas.List.{get_or-set_same, get_or-set_other, length-set, append_cancel_right}
use Rattle.std.proofs.lemmas.List.Sums.{sum_by-set, get_or-le-sum_by}
use Rattle.std.proofs.lemmas.List.FromFn.{fill_by_all}
use Rattle.order_pool.specs.Lines.{line_at, StandsBetween}
use Rattle.order_pool.specs.Rings.{AreRings}
use Rattle.order_pool.specs.Links.{ring_linked, rings_linked, IsChain, AreLinked}
use Rattle.order_pool.proofs.Chains.{Misses, misses_parts, split_at, chain_split, chain_join, chain_end, chain_end_bound, chain_end_apart, chain_start, chain_start_bound, chain_start_apart, chain_misses_mark, chain_unique, walked_chain}
use Rattle.order_pool.proofs.OnceLemmas.{once_other, once_front, once_back}
use Rattle.order_pool.proofs.Edits.{IsLinkedBetween, unlinked_aside, unlinked_within, IsGap, linked_aside, linked_at_end}

module _ (next previous : List ℕ) (rings : List (List ℕ)) (linked : AreLinked next previous rings) where
  -- the two chains that a place cuts its ring into
  pub ring_split : (k place : ℕ) (front back : List ℕ) → StandsBetween rings k front place back
      → IsChain next previous (4096 + k) front place × (place < 4096) × IsChain next previous place back (4096 + k)
  ring_split k place front back stands =
      let P : List ℕ → Type 0 = λ l. IsChain next previous (4096 + k) l (4096 + k) in
      chain_split next previous (4096 + k) (4096 + k) place front back (subst P stands.1 (linked.chained k stands.0))

  -- a place stands at one spot only
  pub ring_once : (k j place : ℕ) (front back front' back' : List ℕ) → StandsBetween rings k front place back → StandsBetween rings j front' place back'
      → (k ≡ j) × (front ≡ front') × (back ≡ back')
  ring_once k j place front back front' back' here there =
      let same = chain_unique next previous place (4096 + k) (4096 + j) back back' (omega arith) (omega arith) (ring_split k place front back here).2 (ring_split j place front' back' there).2 in
      let ring : k ≡ j = omega (arith, same.1) in
      let lines : front ++ place ∷ back ≡ front' ++ place ∷ back = sym here.1 ∙ ap (line_at rings) ring ∙ there.1 ∙ ap (λ l. front' ++ place ∷ l) (sym same.0) in
      (ring, append_cancel_right front front' (place ∷ back) lines, same.0)

  misses_other : (k j place : ℕ) (front back : List ℕ) → j < length rings → j ≢ k → StandsBetween rings k front place back → Misses place (line_at rings j)
  misses_other = once_other rings ring_once

  misses_front : (k place : ℕ) (front back : List ℕ) → StandsBetween rings k front place back → Misses place front
  misses_front = once_front rings ring_once

  misses_back : (k place : ℕ) (front back : List ℕ) → StandsBetween rings k front place back → Misses place back
  misses_back = once_back rings ring_once

  -- the rings are what the links show
  pub rings_linked_is : rings_linked next ≡ rings
  unfolding rings_linked ring_linked
  rings_linked_is =
      sym (fill_by_all (ring_linked next) rings (length next - 4096) [] (omega (arith, linked.length_next)) (λ k within.
      let inside : k < length rings = omega (arith, linked.length_next) in
      sym (walked_chain next previous (length next) (4096 + k) (4096 + k) (line_at rings k) (omega (arith, linked.length_next, linked.few, get_or-le-sum_by length rings k [] inside)) (omega arith) (linked.chained k inside))))

  -- the neighbours of a place that stands in a ring
  pub neighbours : (k place : ℕ) (front back : List ℕ) → StandsBetween rings k front place back → IsLinkedBetween next previous (get_or previous place 0) place (get_or next place 0)
  neighbours k place front back stands =
      let parts = ring_split k place front back stands in
      record {
        forth_in = chain_end next previous (4096 + k) place front parts.0;
        forth_out = refl;
        back_out = refl;
        back_in = chain_start next previous place (4096 + k) back parts.2;
        before_within = chain_end_bound next previous (4096 + k) place (length next) front (omega (arith, linked.length_next, stands.0)) (omega (arith, linked.length_next)) parts.0;
        after_within = chain_start_bound next previous place (4096 + k) (length previous) back (omega (arith, linked.length_previous, stands.0)) (omega (arith, linked.length_previous)) parts.2;
      }

  -- the links of a place that stands in a ring lead elsewhere
  pub links_apart : (k place : ℕ) (front back : List ℕ) → StandsBetween rings k front place back → (get_or next place 0 ≢ place) × (get_or previous place 0 ≢ place)
  links_apart k place front back stands =
      let parts = ring_split k place front back stands in
      let mark : 4096 + k ≢ place = λ e. omega (arith, parts.1) in (
        chain_start_apart next previous place place (4096 + k) back mark (misses_back k place front back stands) parts.2,
        chain_end_apart next previous place (4096 + k) place front mark (misses_front k place front back stands) parts.0,
      )

  -- new links make the rings with one of them changed, where they make that one and keep the others
  AreLinked-set : (next' previous' : List ℕ) (k : ℕ) (ring : List ℕ) → k < length rings → length next' ≡ length next → length previous' ≡ length previous → sum_by length rings + length ring ≤ 4096 + length (line_at rings k)
      → IsChain next' previous' (4096 + k) ring (4096 + k) → ((j : ℕ) → j < length rings → j ≢ k → IsChain next' previous' (4096 + j) (line_at rings j) (4096 + j))
      → AreLinked next' previous' (set rings k ring)
  AreLinked-set next' previous' k ring within_k same_next same_previous few here others =
      let chained : (j : ℕ) → j < length (set rings k ring) → IsChain next' previous' (4096 + j) (line_at (set rings k ring) j) (4096 + j) =
      λ j within_set.
      let within : j < length rings = omega (arith, length-set rings k ring) in
      elim (cases_eq j k) [
        | inl same ↦ rw (same, get_or-set_same rings k ring [] within_k) here
        | inr differs ↦ rw (get_or-set_other rings k j ring [] differs) (others j within differs)
      ] in
      record {
        length_next = same_next ∙ linked.length_next ∙ ap (λ n. 4096 + n) (sym (length-set rings k ring));
        length_previous = same_previous ∙ linked.length_previous ∙ ap (λ n. 4096 + n) (sym (length-set rings k ring));
        fits = omega (arith, linked.fits, length-set rings k ring);
        few = omega (arith, few, sum_by-set length rings k ring [] within_k);
        chained = chained;
      }

  -- a place leaves its ring
  pub AreLinked-removed : (k place : ℕ) (front back : List ℕ) → StandsBetween rings k front place back
      → AreLinked (set next (get_or previous place 0) (get_or next place 0)) (set previous (get_or next place 0) (get_or previous place 0)) (set rings k (front ++ back))
  AreLinked-removed k place front back stands =
      let parts = ring_split k place front back stands in
      let around = neighbours k place front back stands in
      let before = get_or previous place 0 in
      let after = get_or next place 0 in
      let mark : (j : ℕ) → 4096 + j ≢ place = λ j e. omega (arith, parts.1) in
      AreLinked-set (set next before after) (set previous after before) k (front ++ back) stands.0 (length-set next before after) (length-set previous after before)
      (omega (arith, linked.few, length-append front back, ap length stands.1, length-append front (place ∷ back)))
      (unlinked_within next previous before place after around (4096 + k) (4096 + k) front back (mark k) (mark k) (misses_front k place front back stands) (misses_back k place front back stands) parts.0 parts.2)
      (λ j within differs. unlinked_aside next previous before place after around (4096 + j) (4096 + j) (line_at rings j) (mark j) (mark j) (misses_other k j place front back within differs stands) (linked.chained j within))

  module _ (place : ℕ) (low : place < 4096) (room : sum_by length rings < 4096) (misses : (j : ℕ) → j < length rings → Misses place (line_at rings j)) where
    -- a place that stands in no ring fits before a place of a ring, or before the mark at its end
    gap_at : (k after : ℕ) (front : List ℕ) → k < length rings → after < length previous → after ≢ place → Misses place front → IsChain next previous (4096 + k) front after → IsGap next previous (get_or previous after 0) place after
    gap_at k after front within after_within apart front_misses c =
        let mark : 4096 + k ≢ place = λ e. omega (arith, low) in
        record {
          forth = chain_end next previous (4096 + k) after front c;
          back = refl;
          before_within = chain_end_bound next previous (4096 + k) after (length next) front (omega (arith, linked.length_next)) (omega (arith, linked.length_next)) c;
          after_within = after_within;
          next_within = omega (arith, linked.length_next);
          previous_within = omega (arith, linked.length_previous);
          not_before = chain_end_apart next previous place (4096 + k) after front mark front_misses c;
          not_after = apart;
        }

    -- it joins a ring before a place of it
    pub AreLinked-inserted_before : (k after : ℕ) (front back : List ℕ) → StandsBetween rings k front after back
        → AreLinked (set (set next (get_or previous after 0) place) place after) (set (set previous after place) place (get_or previous after 0)) (set rings k (front ++ place ∷ after ∷ back))
    AreLinked-inserted_before k after front back stands =
        let before = get_or previous after 0 in
        let next' = set (set next before place) place after in
        let previous' = set (set previous after place) place before in
        let parts = ring_split k after front back stands in
        let P : List ℕ → Type 0 = λ l. Misses place l in
        let apart = misses_parts place after front back (subst P stands.1 (misses k stands.0)) in
        let gap = gap_at k after front stands.0 (omega (arith, linked.length_previous, parts.1)) apart.1 apart.0 parts.0 in
        let mark : (j : ℕ) → 4096 + j ≢ place = λ j e. omega (arith, low) in
        let mark_after : (j : ℕ) → 4096 + j ≢ after = λ j e. omega (arith, parts.1) in
        let whole : IsChain next' previous' (4096 + k) ((front ++ place ∷ []) ++ after ∷ back) (4096 + k) =
        chain_join next' previous' (4096 + k) (4096 + k) after (front ++ place ∷ []) back
        (linked_at_end next previous before place after gap (4096 + k) front low (mark k) apart.0 (misses_front k after front back stands) parts.0) parts.1
        (linked_aside next previous before place after gap after (4096 + k) back apart.1 (mark k) (mark_after k) apart.2 (misses_back k after front back stands) parts.2) in
        let Q : List ℕ → Type 0 = λ l. IsChain next' previous' (4096 + k) l (4096 + k) in
        AreLinked-set next' previous' k (front ++ place ∷ after ∷ back) stands.0
        (length-set (set next before place) place after ∙ length-set next before place) (length-set (set previous after place) place before ∙ length-set previous after place)
        (omega (arith, room, ap length stands.1, length-append front (after ∷ back), length-append front (place ∷ after ∷ back)))
        (subst Q (append_assoc front (place ∷ []) (after ∷ back)) whole)
        (λ j within differs. linked_aside next previous before place after gap (4096 + j) (4096 + j) (line_at rings j) (mark j) (mark j) (mark_after j) (misses j within) (misses_other k j after front back within differs stands) (linked.chained j within))

    -- it joins a ring at its end
    pub AreLinked-inserted_last : (k : ℕ) → k < length rings
        → AreLinked (set (set next (get_or previous (4096 + k) 0) place) place (4096 + k)) (set (set previous (4096 + k) place) place (get_or previous (4096 + k) 0)) (set rings k (line_at rings k ++ place ∷ []))
    AreLinked-inserted_last k within_k =
        let after = 4096 + k in
        let before = get_or previous after 0 in
        let mark : (j : ℕ) → 4096 + j ≢ place = λ j e. omega (arith, low) in
        let gap = gap_at k after (line_at rings k) within_k (omega (arith, linked.length_previous)) (mark k) (misses k within_k) (linked.chained k within_k) in
        let missed : (j : ℕ) → j < length rings → Misses after (line_at rings j) = λ j within. chain_misses_mark next previous (4096 + j) (4096 + j) after (line_at rings j) (omega arith) (linked.chained j within) in
        AreLinked-set (set (set next before place) place after) (set (set previous after place) place before) k (line_at rings k ++ place ∷ []) within_k
        (length-set (set next before place) place after ∙ length-set next before place) (length-set (set previous after place) place before ∙ length-set previous after place)
        (omega (arith, room, length-append (line_at rings k) (place ∷ [])))
        (linked_at_end next previous before place after gap (4096 + k) (line_at rings k) low (mark k) (misses k within_k) (missed k within_k) (linked.chained k within_k))
        (λ j within differs. let apart : 4096 + j ≢ after = λ e. differs (omega arith) in linked_aside next previous before place after gap (4096 + j) (4096 + j) (line_at rings j) (mark j) (mark j) apart (misses j within) (missed j within) (linked.chained j within))

  -- what the links say of the rings alone
  pub rings_are : AreRings rings
  rings_are =
      record {
        fits = linked.fits;
        low = λ k place stands. let parts = split_at place (line_at rings k) stands.1 in (ring_split k place parts.0 parts.1 (stands.0, parts.2)).1;
        once = ring_once;
        few = linked.few;
      }
