-- What the calls of the rings read of the links and write to them.
use Rattle.std.proofs.Common.{◌≡◌, ◌≢◌, ℕ, ◌+◌, ◌*◌, ◌^◌, ◌<◌, List, [], ◌∷◌, ◌++◌, length, get_or, set, replicate, sum_by, Option, Some, None, unwrap_or, refl, sym, ap, ◌∙◌, subst, arith}
use Rattle.std.proofs.lemmas.List.{get_or-replicate, length-replicate}
use Rattle.std.proofs.lemmas.List.Folds.{sum_by-replicate}
use Rattle.order_pool.specs.Lines.{line_at, first_in, last_in, StandsIn, StandsBetween, IsRemoved, IsInserted, IsNext, IsPrevious}
use Rattle.order_pool.specs.Links.{rings_linked, IsChain, AreLinked}
use Rattle.order_pool.specs.Rings.{AreRings}
use Rattle.order_pool.proofs.Chains.{Misses, misses_absent, split_at, place_at, chain_first, chain_last, chain_end_bound}
use Rattle.order_pool.proofs.Edits.{IsLinkedBetween}
use Rattle.order_pool.proofs.RingLemmas.{ring_split, rings_linked_is, neighbours, links_apart, rings_are, AreLinked-removed, AreLinked-inserted_before, AreLinked-inserted_last}

-- links that lead from each number to itself make empty rings
pub AreLinked-fresh : (next previous : List ℕ) (count : ℕ) → length next ≡ 4096 + count → length previous ≡ 4096 + count → 4096 + count < 2 ^ 32
    → ((k : ℕ) → k < 4096 + count → get_or next k 0 ≡ k) → ((k : ℕ) → k < 4096 + count → get_or previous k 0 ≡ k)
    → AreLinked next previous (replicate count [])
AreLinked-fresh next previous count next_is previous_is fits forth back =
    let none : List ℕ = [] in
    let many : length (replicate count none) ≡ count = length-replicate count none in
    let total : sum_by length (replicate count none) ≡ count * 0 = sum_by-replicate length count none in
    let chained : (k : ℕ) → k < length (replicate count none) → IsChain next previous (4096 + k) (line_at (replicate count none) k) (4096 + k) =
    λ k within.
    let inside : k < count = omega (arith, many) in
    rw (get_or-replicate count k none none inside) (forth (4096 + k) (omega arith), back (4096 + k) (omega arith)) in
    record {
      length_next = next_is ∙ ap (λ n. 4096 + n) (sym many);
      length_previous = previous_is ∙ ap (λ n. 4096 + n) (sym many);
      fits = omega (arith, many);
      few = omega (arith, total);
      chained = chained;
    }

module _ (next previous : List ℕ) (rings : List (List ℕ)) (linked : AreLinked next previous rings) where
  -- the invariant, said of what the links show
  pub AreLinked-shown : AreLinked next previous (rings_linked next)
  AreLinked-shown =
      let P : List (List ℕ) → Type 0 = λ r. AreLinked next previous r in
      subst P (sym (rings_linked_is next previous rings linked)) linked

  pub AreRings-shown : AreRings (rings_linked next)
  AreRings-shown =
      let P : List (List ℕ) → Type 0 = λ r. AreRings r in
      subst P (sym (rings_linked_is next previous rings linked)) (rings_are next previous rings linked)

  -- what the links of a place and of a mark show
  pub first_shown : (k : ℕ) → k < length rings → place_at (get_or next (4096 + k) 0) ≡ first_in (line_at rings k)
  first_shown k within = chain_first next previous (4096 + k) (4096 + k) (line_at rings k) (omega arith) (linked.chained k within)

  pub next_shown : (place : ℕ) → IsNext rings place (place_at (get_or next place 0))
  next_shown place = λ k front back stands. chain_first next previous place (4096 + k) back (omega arith) (ring_split next previous rings linked k place front back stands).2

  pub previous_shown : (place : ℕ) → IsPrevious rings place (place_at (get_or previous place 0))
  previous_shown place = λ k front back stands. chain_last next previous (4096 + k) place front (omega arith) (ring_split next previous rings linked k place front back stands).0

  pub neighbours_in : (k place : ℕ) → StandsIn rings k place → IsLinkedBetween next previous (get_or previous place 0) place (get_or next place 0)
  neighbours_in k place stands =
      let parts = split_at place (line_at rings k) stands.1 in
      neighbours next previous rings linked k place parts.0 parts.1 (stands.0, parts.2)

  pub apart_in : (k place : ℕ) → StandsIn rings k place → (get_or next place 0 ≢ place) × (get_or previous place 0 ≢ place)
  apart_in k place stands =
      let parts = split_at place (line_at rings k) stands.1 in
      links_apart next previous rings linked k place parts.0 parts.1 (stands.0, parts.2)

  -- the links after a removal
  pub removed_links : (k place before after : ℕ) → StandsIn rings k place → before ≡ get_or previous place 0 → after ≡ get_or next place 0
      → AreLinked (set next before after) (set previous after before) (rings_linked (set next before after))
      × IsRemoved rings (rings_linked (set next before after)) place
  removed_links k place before after stands before_is after_is =
      let made : (k : ℕ) (front back : List ℕ) → StandsBetween rings k front place back → AreLinked (set next before after) (set previous after before) (set rings k (front ++ back)) =
      λ k front back between. rw (before_is, after_is) (AreLinked-removed next previous rings linked k place front back between) in
      let parts = split_at place (line_at rings k) stands.1 in
      let kept = made k parts.0 parts.1 (stands.0, parts.2) in
      let P : List (List ℕ) → Type 0 = λ r. AreLinked (set next before after) (set previous after before) r in (
        subst P (sym (rings_linked_is (set next before after) (set previous after before) (set rings k (parts.0 ++ parts.1)) kept)) kept,
        λ j front back between. rings_linked_is (set next before after) (set previous after before) (set rings j (front ++ back)) (made j front back between),
      )

  -- the links after an insertion
  pub inserted_links : (k place ahead : ℕ) (before : Option ℕ) (behind : ℕ) → k < length rings → ((after : ℕ) → before ≡ Some after → StandsIn rings k after) → place < 4096 → ((j : ℕ) → StandsIn rings j place → ⊥) → sum_by length rings < 4096
      → behind ≡ unwrap_or before (4096 + k) → ahead ≡ get_or previous behind 0
      → AreLinked (set (set next ahead place) place behind) (set (set previous behind place) place ahead) (rings_linked (set (set next ahead place) place behind))
      × IsInserted rings (rings_linked (set (set next ahead place) place behind)) k before place
  inserted_links k place ahead None behind within stands low absent room behind_is ahead_is =
      let misses : (j : ℕ) → j < length rings → Misses place (line_at rings j) = λ j inside. misses_absent place (line_at rings j) (λ has. absent j (inside, has)) in
      let next' = set (set next ahead place) place behind in
      let previous' = set (set previous behind place) place ahead in
      let same : behind ≡ 4096 + k = behind_is in
      let kept : AreLinked next' previous' (set rings k (line_at rings k ++ place ∷ [])) = rw (ahead_is, same) (AreLinked-inserted_last next previous rings linked place low room misses k within) in
      let P : List (List ℕ) → Type 0 = λ r. AreLinked next' previous' r in
      let shown = rings_linked_is next' previous' (set rings k (line_at rings k ++ place ∷ [])) kept in
      (subst P (sym shown) kept, shown)
  inserted_links k place ahead (Some after) behind within stands low absent room behind_is ahead_is =
      let misses : (j : ℕ) → j < length rings → Misses place (line_at rings j) = λ j inside. misses_absent place (line_at rings j) (λ has. absent j (inside, has)) in
      let next' = set (set next ahead place) place behind in
      let previous' = set (set previous behind place) place ahead in
      let same : behind ≡ after = behind_is in
      let made : (front back : List ℕ) → StandsBetween rings k front after back → AreLinked next' previous' (set rings k (front ++ place ∷ after ∷ back)) =
      λ front back between. rw (ahead_is, same) (AreLinked-inserted_before next previous rings linked place low room misses k after front back between) in
      let parts = split_at after (line_at rings k) (stands after refl).1 in
      let kept = made parts.0 parts.1 (within, parts.2) in
      let P : List (List ℕ) → Type 0 = λ r. AreLinked next' previous' r in (
        subst P (sym (rings_linked_is next' previous' (set rings k (parts.0 ++ place ∷ after ∷ parts.1)) kept)) kept,
        λ front back between. rings_linked_is next' previous' (set rings k (front ++ place ∷ after ∷ back)) (made front back between),
      )

  pub last_shown : (k : ℕ) → k < length rings → place_at (get_or previous (4096 + k) 0) ≡ last_in (line_at rings k)
  last_shown k within = chain_last next previous (4096 + k) (4096 + k) (line_at rings k) (omega arith) (linked.chained k within)

  -- where an insertion reads and writes
  pub behind_within : (k : ℕ) (before : Option ℕ) (behind : ℕ) → k < length rings → ((after : ℕ) → before ≡ Some after → StandsIn rings k after) → behind ≡ unwrap_or before (4096 + k) → behind < 4096 + length rings
  behind_within k None behind within stands behind_is = omega (arith, behind_is)
  behind_within k (Some after) behind within stands behind_is =
      let same : behind ≡ after = behind_is in
      omega (arith, (rings_are next previous rings linked).low k after (stands after refl))

  pub behind_apart : (k : ℕ) (before : Option ℕ) (behind : ℕ) → ((after : ℕ) → before ≡ Some after → StandsIn rings k after) → behind ≡ unwrap_or before (4096 + k) → behind < 4096 → get_or previous behind 0 ≢ behind
  behind_apart k None behind stands behind_is low = absurd (omega (arith, behind_is, low))
  behind_apart k (Some after) behind stands behind_is low =
      let same : behind ≡ after = behind_is in
      rw same (apart_in k after (stands after refl)).1

  pub ahead_within : (k : ℕ) (before : Option ℕ) (behind ahead : ℕ) → k < length rings → ((after : ℕ) → before ≡ Some after → StandsIn rings k after) → behind ≡ unwrap_or before (4096 + k) → ahead ≡ get_or previous behind 0 → ahead < length next
  ahead_within k None behind ahead within stands behind_is ahead_is =
      let same : behind ≡ 4096 + k = behind_is in
      rw (ahead_is, same) (chain_end_bound next previous (4096 + k) (4096 + k) (length next) (line_at rings k) (omega (arith, linked.length_next)) (omega (arith, linked.length_next)) (linked.chained k within))
  ahead_within k (Some after) behind ahead within stands behind_is ahead_is =
      let same : behind ≡ after = behind_is in
      rw (ahead_is, same) (neighbours_in k after (stands after refl)).before_within

-- the invariant, said of the value
pub linked_as : (next previous : List ℕ) (rings : List (List ℕ)) → rings_linked next ≡ rings → AreLinked next previous (rings_linked next) → AreLinked next previous rings
linked_as next previous rings shown linked =
    let P : List (List ℕ) → Type 0 = λ r. AreLinked next previous r in
    subst P shown linked
