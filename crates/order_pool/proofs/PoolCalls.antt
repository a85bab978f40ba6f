-- What the calls of a pool ask of its rings, and what the pool is after them.
use Rattle.std.proofs.Common.{◌≡◌, ◌≢◌, ℕ, ◌+◌, ◌<◌, List, length, get_or, set, drop, Option, Some, None, IsSome, refl, sym, ◌∙◌, subst, arith}
use Rattle.std.proofs.lemmas.List.{length-drop, get_or-set_same}
use Rattle.order_pool.specs.Lines.{line_at, first_in, StandsIn, IsInserted, IsRemoved, IsMoved}
use Rattle.order_pool.specs.Rings.{AreRings}
use Rattle.order_pool.specs.Slots.{IsPool}
use Rattle.order_pool.proofs.MoveLemmas.{IsShifted, between_in, still_before, is_shifted, is_joined}
use Rattle.order_pool.proofs.PoolLemmas.{stands_in_ring, stands_in_line, none_is_not_some, first_stands, live_low, live_stands, inserted_in_line, lines_after_insert, lines_after_take, IsPool-shifted}

module _ {T : Type 0} (places : List (Option T)) (rings : List (List ℕ)) (used : ℕ) (pool : IsPool places rings used) where
  shifted : (new : List (List ℕ)) (from place ring : ℕ) (before : Option ℕ) → StandsIn rings from place → ring < length rings → ((after : ℕ) → before ≡ Some after → StandsIn rings ring after) → before ≢ Some place → IsMoved rings new place ring before → IsShifted rings new place ring 0
  shifted new from place ring before stands within ahead apart moved =
      let cut = between_in rings from place stands in
      is_shifted rings pool.sound.once from place cut.0 cut.1 cut.2 new ring before within ahead apart (moved from cut.0 cut.1 cut.2)

  same_count : (new : List (List ℕ)) (place ring grown : ℕ) → IsShifted rings new place ring grown → length (drop 1 new) ≡ length (drop 1 rings)
  same_count new place ring grown moved = omega (arith, length-drop 1 new, length-drop 1 rings, moved.many)

  -- no further place is used
  kept : (new : List (List ℕ)) (place : ℕ) (slot : Option T) → IsPool (set places place slot) new (used + 0) → IsPool (set places place slot) new used
  kept new place slot made =
      let same : used + 0 ≡ used = omega arith in
      let P : ℕ → Type 0 = λ n. IsPool (set places place slot) new n in
      subst P same made

  -- the place before which another is to stand, said of the rings
  pub ahead_in_ring : (line : ℕ) (before : Option ℕ) → ((after : ℕ) → before ≡ Some after → StandsIn (drop 1 rings) line after) → (after : ℕ) → before ≡ Some after → StandsIn rings (line + 1) after
  ahead_in_ring line before ahead after is = stands_in_ring rings line after (ahead after is)

  pub line_within : (line : ℕ) → line < length (drop 1 rings) → line + 1 < length rings
  line_within line within = omega (arith, within, length-drop 1 rings)

  -- an item comes to a place of the first ring, which joins a line
  module _ (place line : ℕ) (before : Option ℕ) (is_first : first_in (line_at rings 0) ≡ Some place) (within : line < length (drop 1 rings)) (ahead : (after : ℕ) → before ≡ Some after → StandsIn (drop 1 rings) line after) where
    pub insert_free : StandsIn rings 0 place
    insert_free = first_stands rings 0 place (omega (arith, pool.two)) is_first

    pub insert_apart : before ≢ Some place
    insert_apart = λ e. none_is_not_some (get_or places place None) (pool.free place insert_free) (pool.held line place (stands_in_ring rings line place (ahead place e)))

    module _ (new : List (List ℕ)) (moved : IsMoved rings new place (line + 1) before) where
      insert_shifted : IsShifted rings new place (line + 1) 0
      insert_shifted = shifted new 0 place (line + 1) before insert_free (line_within line within) (ahead_in_ring line before ahead) insert_apart moved

      pub insert_pool : (item : T) → AreRings new → IsPool (set places place (Some item)) new used
      insert_pool item sound =
          kept new place (Some item) (IsPool-shifted places rings used pool new place (line + 1) 0 (Some item) insert_shifted sound (omega (arith, pool.low 0 place insert_free)) (omega (arith, pool.within)) (λ other low differs. omega (arith, low)) (λ e. absurd (omega (arith, e))) (λ above. refl))

      pub insert_lines : IsInserted (drop 1 rings) (drop 1 new) line before place
      insert_lines = lines_after_insert rings new line place before insert_free moved

      pub insert_stands : StandsIn (drop 1 new) line place
      insert_stands = stands_in_line new line place insert_shifted.here

      pub insert_count : length (drop 1 new) ≡ length (drop 1 rings)
      insert_count = same_count new place (line + 1) 0 insert_shifted

    pub insert_holds : (item : T) → get_or (set places place (Some item)) place None ≡ Some item
    insert_holds item = get_or-set_same places place (Some item) None (omega (arith, pool.low 0 place insert_free, pool.within, pool.size))

  -- an item comes to the first place that was never used, which joins a line
  module _ (line : ℕ) (before : Option ℕ) (more : used < 4096) (within : line < length (drop 1 rings)) (ahead : (after : ℕ) → before ≡ Some after → StandsIn (drop 1 rings) line after) where
    pub fresh_absent : (ring : ℕ) → StandsIn rings ring used → ⊥
    fresh_absent ring stands = omega (arith, pool.low ring used stands)

    pub fresh_holds : (item : T) → get_or (set places used (Some item)) used None ≡ Some item
    fresh_holds item = get_or-set_same places used (Some item) None (omega (arith, more, pool.size))

    module _ (new : List (List ℕ)) (inserted : IsInserted rings new (line + 1) before used) where
      fresh_shifted : IsShifted rings new used (line + 1) 1
      fresh_shifted = is_joined rings new used (line + 1) before fresh_absent (line_within line within) (ahead_in_ring line before ahead) inserted

      pub fresh_pool : (item : T) → AreRings new → IsPool (set places used (Some item)) new (used + 1)
      fresh_pool item sound =
          IsPool-shifted places rings used pool new used (line + 1) 1 (Some item) fresh_shifted sound (omega arith) (omega (arith, more)) (λ other low differs. omega (arith, low, differs)) (λ e. absurd (omega (arith, e))) (λ above. refl)

      pub fresh_lines : IsInserted (drop 1 rings) (drop 1 new) line before used
      fresh_lines = inserted_in_line rings new line before used inserted

      pub fresh_stands : StandsIn (drop 1 new) line used
      fresh_stands = stands_in_line new line used fresh_shifted.here

      pub fresh_count : length (drop 1 new) ≡ length (drop 1 rings)
      fresh_count = same_count new used (line + 1) 1 fresh_shifted

  -- the item of a live place is taken
  module _ (place : ℕ) (live : IsSome (get_or places place None)) where
    -- and the place goes to the first ring, before its first place
    module _ (before : Option ℕ) (is_first : before ≡ first_in (line_at rings 0)) where
      pub take_ahead : (after : ℕ) → before ≡ Some after → StandsIn rings 0 after
      take_ahead after is = first_stands rings 0 after (omega (arith, pool.two)) (sym is_first ∙ is)

      pub take_apart : before ≢ Some place
      take_apart = λ e. none_is_not_some (get_or places place None) (pool.free place (take_ahead place e)) live

      module _ (new : List (List ℕ)) (moved : IsMoved rings new place 0 before) where
        take_shifted : IsShifted rings new place 0 0
        take_shifted =
            let there = live_stands places rings used pool place live in
            shifted new (there.0 + 1) place 0 before there.1 (omega (arith, pool.two)) take_ahead take_apart moved

        pub take_pool : AreRings new → IsPool (set places place None) new used
        take_pool sound =
            kept new place None (IsPool-shifted places rings used pool new place 0 0 None take_shifted sound (omega (arith, live_low places rings used pool place live)) (omega (arith, pool.within)) (λ other low differs. omega (arith, low)) (λ e. refl) (λ above. absurd (omega (arith, above))))

        pub take_lines : IsRemoved (drop 1 rings) (drop 1 new) place
        take_lines =
            lines_after_take rings new place before (omega (arith, pool.two)) (λ from front back stands. still_before rings pool.sound.once from place front back stands 0 before take_ahead take_apart) moved

        pub take_count : length (drop 1 new) ≡ length (drop 1 rings)
        take_count = same_count new place 0 0 take_shifted
