-- What the calls of a pool ask and what they leave, said of what callers see.
use Rattle.std.proofs.Common.{◌≡◌, ◌≢◌, ℕ, ◌+◌, ◌<◌, List, [], ◌∷◌, ◌++◌, length, get_or, set, drop, Option, Some, None, IsSome, sym, ap, ◌∙◌, subst, arith, length-append}
use Rattle.std.proofs.lemmas.List.{length-set, get_or-map}
use Rattle.order_pool.specs.Lines.{line_at, first_in, StandsIn, IsInserted, IsRemoved, IsMoved}
use Rattle.order_pool.specs.Rings.{AreRings}
use Rattle.order_pool.specs.Pool.{PoolState, item_at, IsLive, with_item, IsSound}
use Rattle.order_pool.specs.declared.slots.Slot.{Slot}
use Rattle.order_pool.specs.declared.slots.Slot.TheVariants.{Free, Held}
use Rattle.order_pool.specs.Slots.{item_in, places_in, IsPool}
use Rattle.order_pool.proofs.FilledLemmas.{filled_at, filled-set, filled-push}
use Rattle.order_pool.proofs.PoolLemmas.{pool_is_sound, full_where_none_free, live_low, IsPool-rewritten}
use Rattle.order_pool.proofs.PoolCalls.{insert_free, insert_apart, insert_pool, insert_lines, insert_stands, insert_count, insert_holds, fresh_absent, fresh_pool, fresh_lines, fresh_stands, fresh_count, fresh_holds, take_pool, take_lines, take_count}

-- the pool of these slots and rings
abbrev pub pool_of : {T : Type 0} → List (Slot T) → List (List ℕ) → PoolState T
pool_of slots rings = record { places = places_in slots; lines = drop 1 rings }

-- a pool, where its places and the number of those that were used are said otherwise
IsPool-as : {T : Type 0} (places places' : List (Option T)) (rings : List (List ℕ)) (used used' : ℕ) → places' ≡ places → used' ≡ used → IsPool places rings used → IsPool places' rings used'
IsPool-as places places' rings used used' same count pool =
    let P : List (Option _) → Type 0 = λ l. IsPool l rings used in
    let Q : ℕ → Type 0 = λ n. IsPool places' rings n in
    subst Q (sym count) (subst P (sym same) pool)

module _ {T : Type 0} (slots : List (Slot T)) (rings : List (List ℕ)) (state : PoolState T) (shown : pool_of slots rings ≡ state) (pool : IsPool (places_in slots) rings (length slots)) where
  lines_are : drop 1 rings ≡ state.lines
  lines_are = ap (λ s. s.lines) shown

  places_are : places_in slots ≡ state.places
  places_are = ap (λ s. s.places) shown

  pub state_is_sound : IsSound state
  state_is_sound =
      let P : PoolState T → Type 0 = λ s. IsSound s in
      subst P shown (pool_is_sound (places_in slots) rings (length slots) pool)

  live_in : (place : ℕ) → IsLive state place → IsSome (get_or (places_in slots) place None)
  live_in place live =
      let P : List (Option T) → Type 0 = λ l. IsSome (get_or l place None) in
      subst P (sym places_are) live

  within_in : (line : ℕ) → line < length state.lines → line < length (drop 1 rings)
  within_in line within = omega (arith, within, ap length lines_are)

  ahead_in : (line : ℕ) (before : Option ℕ) → ((after : ℕ) → before ≡ Some after → StandsIn state.lines line after) → (after : ℕ) → before ≡ Some after → StandsIn (drop 1 rings) line after
  ahead_in line before ahead after is =
      let P : List (List ℕ) → Type 0 = λ l. StandsIn l line after in
      subst P (sym lines_are) (ahead after is)

  pub live_within : (place : ℕ) → IsLive state place → place < length slots
  live_within place live = live_low (places_in slots) rings (length slots) pool place (live_in place live)

  -- with no first free place and each place used every place is live
  pub none_free : first_in (line_at rings 0) ≡ None → length slots ≡ 4096 → (place : ℕ) → place < 4096 → IsLive state place
  none_free empty all place low =
      let P : List (Option T) → Type 0 = λ l. IsSome (get_or l place None) in
      subst P places_are ((full_where_none_free (places_in slots) rings (length slots) pool empty all).1 place low)

  -- a slot that was read shows the item of its place
  pub item_read : (place : ℕ) (slot : Slot T) → place < length slots → slot ≡ get_or slots place slot → item_at state place ≡ item_in slot
  item_read place slot within read =
      ap (λ l. get_or l place None) (sym places_are) ∙ filled_at item_in slots 4096 place within ∙ get_or-map item_in slots place slot None within ∙ ap item_in (sym read)

  pub item_live : (place : ℕ) (slot : Slot T) → IsLive state place → slot ≡ get_or slots place slot → IsSome (item_in slot)
  item_live place slot live read =
      let P : Option T → Type 0 = λ o. IsSome o in
      subst P (item_read place slot (live_within place live) read) live

  -- another item through a borrow
  pub lent_pool : (place : ℕ) (item : T) → IsLive state place → IsPool (places_in (set slots place (Held item))) rings (length (set slots place (Held item)))
  lent_pool place item live =
      IsPool-as (set (places_in slots) place (Some item)) (places_in (set slots place (Held item))) rings (length slots) (length (set slots place (Held item)))
      (filled-set item_in slots 4096 place (Held item) (live_within place live)) (length-set slots place (Held item)) (IsPool-rewritten (places_in slots) rings (length slots) pool place item (live_in place live))

  pub lent_state : (place : ℕ) (item : T) → IsLive state place → pool_of (set slots place (Held item)) rings ≡ with_item state place item
  lent_state place item live =
      let R : List (Option T) → PoolState T = λ l. record { places = l; lines = drop 1 rings } in
      ap R (filled-set item_in slots 4096 place (Held item) (live_within place live)) ∙ ap (λ s. with_item s place item) shown

  -- an item is put into a place that was given back
  module _ (place line : ℕ) (before : Option ℕ) (is_first : Some place ≡ first_in (line_at rings 0)) (within : line < length state.lines) (ahead : (after : ℕ) → before ≡ Some after → StandsIn state.lines line after) where
    pub put_free : StandsIn rings 0 place
    put_free = insert_free (places_in slots) rings (length slots) pool place line before (sym is_first) (within_in line within) (ahead_in line before ahead)

    pub put_used : place < length slots
    put_used = pool.low 0 place put_free

    pub put_apart : before ≢ Some place
    put_apart = insert_apart (places_in slots) rings (length slots) pool place line before (sym is_first) (within_in line within) (ahead_in line before ahead)

    module _ (item : T) (after : List (Slot T)) (is : after ≡ set slots place (Held item)) (new : List (List ℕ)) (moved : IsMoved rings new place (line + 1) before) (sound : AreRings new) where
      put_slots : places_in after ≡ set (places_in slots) place (Some item)
      put_slots = ap places_in is ∙ filled-set item_in slots 4096 place (Held item) put_used

      pub put_pool : IsPool (places_in after) new (length after)
      put_pool =
          IsPool-as (set (places_in slots) place (Some item)) (places_in after) new (length slots) (length after) put_slots (ap length is ∙ length-set slots place (Held item))
          (insert_pool (places_in slots) rings (length slots) pool place line before (sym is_first) (within_in line within) (ahead_in line before ahead) new moved item sound)

      pub put_sound : IsSound (pool_of after new)
      put_sound = pool_is_sound (places_in after) new (length after) put_pool

      pub put_places : places_in after ≡ set state.places place (Some item)
      put_places = put_slots ∙ ap (λ l. set l place (Some item)) places_are

      pub put_lines : IsInserted state.lines (drop 1 new) line before place
      put_lines =
          let P : List (List ℕ) → Type 0 = λ l. IsInserted l (drop 1 new) line before place in
          subst P lines_are (insert_lines (places_in slots) rings (length slots) pool place line before (sym is_first) (within_in line within) (ahead_in line before ahead) new moved)

      pub put_holds : get_or (places_in after) place None ≡ Some item
      put_holds =
          ap (λ l. get_or l place None) put_slots
          ∙ insert_holds (places_in slots) rings (length slots) pool place line before (sym is_first) (within_in line within) (ahead_in line before ahead) item

      pub put_stands : StandsIn (drop 1 new) line place
      put_stands = insert_stands (places_in slots) rings (length slots) pool place line before (sym is_first) (within_in line within) (ahead_in line before ahead) new moved

      pub put_count : length (drop 1 new) ≡ length state.lines
      put_count =
          insert_count (places_in slots) rings (length slots) pool place line before (sym is_first) (within_in line within) (ahead_in line before ahead) new moved ∙ ap length lines_are

  -- an item is put into the first place that was never used
  module _ (place line : ℕ) (before : Option ℕ) (next : place ≡ length slots) (more : length slots < 4096) (within : line < length state.lines) (ahead : (after : ℕ) → before ≡ Some after → StandsIn state.lines line after) where
    pub new_absent : (ring : ℕ) → StandsIn rings ring place → ⊥
    new_absent ring stands =
        let P : ℕ → Type 0 = λ p. StandsIn rings ring p in
        fresh_absent (places_in slots) rings (length slots) pool line before more (within_in line within) (ahead_in line before ahead) ring (subst P next stands)

    module _ (item : T) (after : List (Slot T)) (is : after ≡ slots ++ Held item ∷ []) (new : List (List ℕ)) (joined : IsInserted rings new (line + 1) before place) (sound : AreRings new) where
      inserted : IsInserted rings new (line + 1) before (length slots)
      inserted =
          let P : ℕ → Type 0 = λ p. IsInserted rings new (line + 1) before p in
          subst P next joined

      new_slots : places_in after ≡ set (places_in slots) (length slots) (Some item)
      new_slots = ap places_in is ∙ filled-push item_in slots 4096 (Held item) more

      pub new_pool : IsPool (places_in after) new (length after)
      new_pool =
          IsPool-as (set (places_in slots) (length slots) (Some item)) (places_in after) new (length slots + 1) (length after) new_slots (ap length is ∙ length-append slots (Held item ∷ []))
          (fresh_pool (places_in slots) rings (length slots) pool line before more (within_in line within) (ahead_in line before ahead) new inserted item sound)

      pub new_sound : IsSound (pool_of after new)
      new_sound = pool_is_sound (places_in after) new (length after) new_pool

      pub new_places : places_in after ≡ set state.places place (Some item)
      new_places = new_slots ∙ ap (λ l. set l (length slots) (Some item)) places_are ∙ ap (λ p. set state.places p (Some item)) (sym next)

      pub new_lines : IsInserted state.lines (drop 1 new) line before place
      new_lines =
          let P : List (List ℕ) → Type 0 = λ l. IsInserted l (drop 1 new) line before (length slots) in
          let Q : ℕ → Type 0 = λ p. IsInserted state.lines (drop 1 new) line before p in
          subst Q (sym next) (subst P lines_are (fresh_lines (places_in slots) rings (length slots) pool line before more (within_in line within) (ahead_in line before ahead) new inserted))

      pub new_holds : get_or (places_in after) place None ≡ Some item
      new_holds =
          ap (λ p. get_or (places_in after) p None) next
          ∙ ap (λ l. get_or l (length slots) None) new_slots
          ∙ fresh_holds (places_in slots) rings (length slots) pool line before more (within_in line within) (ahead_in line before ahead) item

      pub new_stands : StandsIn (drop 1 new) line place
      new_stands =
          let P : ℕ → Type 0 = λ p. StandsIn (drop 1 new) line p in
          subst P (sym next) (fresh_stands (places_in slots) rings (length slots) pool line before more (within_in line within) (ahead_in line before ahead) new inserted)

      pub new_count : length (drop 1 new) ≡ length state.lines
      new_count =
          fresh_count (places_in slots) rings (length slots) pool line before more (within_in line within) (ahead_in line before ahead) new inserted ∙ ap length lines_are

  -- the item of a live place is taken
  module _ (place : ℕ) (live : IsLive state place) (before : Option ℕ) (is_first : before ≡ first_in (line_at rings 0)) (after : List (Slot T)) (is : after ≡ set slots place Free) (new : List (List ℕ)) (moved : IsMoved rings new place 0 before) (sound : AreRings new) where
    taken_slots : places_in after ≡ set (places_in slots) place None
    taken_slots = ap places_in is ∙ filled-set item_in slots 4096 place Free (live_within place live)

    pub taken_pool : IsPool (places_in after) new (length after)
    taken_pool =
        IsPool-as (set (places_in slots) place None) (places_in after) new (length slots) (length after) taken_slots (ap length is ∙ length-set slots place Free)
        (take_pool (places_in slots) rings (length slots) pool place (live_in place live) before is_first new moved sound)

    pub taken_sound : IsSound (pool_of after new)
    taken_sound = pool_is_sound (places_in after) new (length after) taken_pool

    pub taken_places : places_in after ≡ set state.places place None
    taken_places = taken_slots ∙ ap (λ l. set l place None) places_are

    pub taken_lines : IsRemoved state.lines (drop 1 new) place
    taken_lines =
        let P : List (List ℕ) → Type 0 = λ l. IsRemoved l (drop 1 new) place in
        subst P lines_are (take_lines (places_in slots) rings (length slots) pool place (live_in place live) before is_first new moved)

    pub taken_count : length (drop 1 new) ≡ length state.lines
    taken_count = take_count (places_in slots) rings (length slots) pool place (live_in place live) before is_first new moved ∙ ap length lines_are
