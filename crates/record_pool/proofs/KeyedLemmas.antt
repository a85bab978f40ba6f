-- What a pool keeps whose items are found by their keys.
use Rattle.std.proofs.Common.{◌≡◌, ◌≢◌, inl, inr, ℕ, zero, suc, ◌+◌, ◌<◌, ◌≤◌, List, [], ◌∷◌, ◌++◌, length, set, get_or, replicate, Contains, Option, Some, None, IsSome, refl, sym, ap, ◌∙◌, subst, arith}
use Rattle.std.proofs.lemmas.Bool.{cases_eq, cases_lt}
use Rattle.std.proofs.lemmas.List.{get_or-set_same, get_or-set_other, get_or_past, length-set, get_or-replicate, length-replicate}
use Rattle.order_pool.specs.Lines.{line_at, first_in, StandsIn, StandsBetween, IsInserted, IsRemoved, IsNext}
use Rattle.order_pool.specs.Pool.{PoolState, item_at, IsLive, with_item, IsSound}
use Rattle.order_pool.proofs.MoveLemmas.{between_in}
use Rattle.order_pool.proofs.OnceLemmas.{insertion_split, joined_cases, removed_loses}
use Rattle.order_pool.proofs.PoolLemmas.{first_stands, none_is_not_some, IsSound-with_item}
use Rattle.record_pool.specs.Keyed.{held_at, held_count, IsAbsent, Holds, AreKeyed}
use Rattle.record_pool.specs.KeyedInside.{IsChained}
use Rattle.record_pool.proofs.Walks.{IsWalked, left_from, walked-stands, walked-all, IsWalked-next, left_from-next}
use Rattle.record_pool.proofs.Counts.{held_count-put, held_count-take, held_count-set, held_count-none, held_count-all, all-held_count}

module _ {T : Type 0} where
  some_is : (o : Option T) → IsSome o → (item : T) × (o ≡ Some item)
  some_is None is = absurd (cc)
  some_is (Some item) is = (item, refl)

  -- a place that holds an item is one of those that there are
  pub held-within : (places : List (Option T)) (place : ℕ) (item : T) → held_at places place ≡ Some item → place < length places
  held-within places place item holds =
      elim (cases_lt place (length places)) [
        | inl low ↦ low
        | inr high ↦ absurd (let none = get_or_past places place None high in cc)
      ]

  -- places that hold nothing
  pub none-replicate : (places : List (Option T)) → ((place : ℕ) → held_at places place ≡ None) → places ≡ replicate (length places) None
  none-replicate [] free = refl
  none-replicate (o ∷ places) free =
      let first = free 0 in
      let rest = none-replicate places (λ place. free (suc place)) in cc

-- a place holds no item of this key
abbrev pub IsOther : {T K : Type 0} → (T → K) → List (Option T) → K → ℕ → Type 0
IsOther {T} key_of places key place = (item : T) → held_at places place ≡ Some item → key_of item ≢ key

module _ {T K : Type 0} (key_of : T → K) where
  pub AreKeyed-none : AreKeyed key_of (replicate 4096 None)
  AreKeyed-none = record {
    size = length-replicate {A = Option T} 4096 None;
    once = λ one other item same holds. absurd (let none = nothing one in cc);
  }
    where
      nothing : (place : ℕ) → held_at (replicate {A = Option T} 4096 None) place ≡ None
      nothing place = elim (cases_lt place 4096) [
        | inl low ↦ get_or-replicate 4096 place None None low
        | inr high ↦ get_or_past (replicate {A = Option T} 4096 None) place None (omega (arith, high, length-replicate {A = Option T} 4096 None))
      ]

  module _ (places : List (Option T)) (keyed : AreKeyed key_of places) (place : ℕ) where
    -- an item of a new key
    pub AreKeyed-put : (item : T) → IsAbsent key_of places (key_of item) → AreKeyed key_of (set places place (Some item))
    AreKeyed-put item absent = record {
      size = length-set places place (Some item) ∙ keyed.size;
      once = λ one other x y of_one of_other same. elim (cases_eq one place) [
        | inl at ↦ elim (cases_eq other place) [
          | inl too ↦ at ∙ sym too
          | inr apart ↦
              let there = sym (get_or-set_other places place other (Some item) None apart) ∙ of_other in
              let own : key_of item ≡ key_of x = ap key_of (placed one x at of_one) in
              absurd (absent other y there (sym (own ∙ same)))
        ]
        | inr apart ↦
            let there = sym (get_or-set_other places place one (Some item) None apart) ∙ of_one in
            elim (cases_eq other place) [
              | inl too ↦
                  let own : key_of item ≡ key_of y = ap key_of (placed other y too of_other) in
                  absurd (absent one x there (same ∙ sym own))
              | inr apart_too ↦ keyed.once one other x y there (sym (get_or-set_other places place other (Some item) None apart_too) ∙ of_other) same
            ]
      ];
    }
      where
        placed : (at : ℕ) (x : T) → at ≡ place → held_at (set places place (Some item)) at ≡ Some x → item ≡ x
        placed at x is holds =
            let within : place < length places = omega (arith, held-within (set places place (Some item)) at x holds, length-set places place (Some item)) in
            let here : held_at (set places place (Some item)) at ≡ Some item = ap (held_at (set places place (Some item))) is ∙ get_or-set_same places place (Some item) None within in
            cc

    -- an item less
    pub AreKeyed-take : AreKeyed key_of (set places place None)
    AreKeyed-take = record {
      size = length-set places place None ∙ keyed.size;
      once = λ one other x y of_one of_other same. keyed.once one other x y (before one x of_one) (before other y of_other) same;
    }
      where
        before : (at : ℕ) (x : T) → held_at (set places place None) at ≡ Some x → held_at places at ≡ Some x
        before at x holds = elim (cases_eq at place) [
          | inl is ↦
              let within : place < length places = omega (arith, held-within (set places place None) at x holds, length-set places place None) in
              let here : held_at (set places place None) at ≡ None = ap (held_at (set places place None)) is ∙ get_or-set_same places place None None within in
              absurd (cc)
          | inr apart ↦ sym (get_or-set_other places place at None None apart) ∙ holds
        ]

    -- another item of the same key
    pub AreKeyed-set : (item : T) → Holds key_of places (key_of item) place → AreKeyed key_of (set places place (Some item))
    AreKeyed-set item holds_key = record {
      size = length-set places place (Some item) ∙ keyed.size;
      once = λ one other x y of_one of_other same.
          let was = before one x of_one in
          let was_too = before other y of_other in
          keyed.once one other was.0 was_too.0 was.1 was_too.1 (was.2 ∙ same ∙ sym was_too.2);
    }
      where
        before : (at : ℕ) (x : T) → held_at (set places place (Some item)) at ≡ Some x → (old : T) × (held_at places at ≡ Some old) × (key_of old ≡ key_of x)
        before at x holds = elim (cases_eq at place) [
          | inl is ↦
              let within : place < length places = held-within places place holds_key.0 holds_key.1 in
              let here : held_at (set places place (Some item)) at ≡ Some item = ap (held_at (set places place (Some item))) is ∙ get_or-set_same places place (Some item) None within in
              let same : item ≡ x = cc in
              (holds_key.0, ap (held_at places) is ∙ holds_key.1, holds_key.2 ∙ ap key_of same)
          | inr apart ↦ (x, sym (get_or-set_other places place at (Some item) None apart) ∙ holds, refl)
        ]

module _ {T K : Type 0} (key_of : T → K) (bucket_of : K → ℕ) where
  -- a pool that holds nothing
  pub IsChained-none : (pool : PoolState T) → IsSound pool → pool.lines ≡ replicate 4096 [] → ((place : ℕ) → item_at pool place ≡ None) → IsChained key_of bucket_of pool 0
  IsChained-none pool sound empty free =
      let nothing : pool.places ≡ replicate 4096 None = none-replicate pool.places free ∙ ap (λ n. replicate n None) sound.size in
      let none : List ℕ = [] in
      record {
        sound = sound;
        buckets = ap length empty ∙ length-replicate 4096 none;
        keyed = subst (AreKeyed key_of) (sym nothing) (AreKeyed-none key_of);
        chained = λ line place item stands holds. absurd (let nowhere = free place in cc);
        counted = sym (held_count-none pool.places free);
      }

  module _ (pool : PoolState T) (count : ℕ) (inside : IsChained key_of bucket_of pool count) where
    -- as many items as there are places are held exactly where no place is free
    pub full-where_none_free : ((place : ℕ) → place < 4096 → IsLive pool place) → held_count pool.places ≡ 4096
    full-where_none_free live =
        held_count-all pool.places (λ place within. live place (omega (arith, within, inside.sound.size))) ∙ inside.sound.size

    pub not_full-where_free : (place : ℕ) → place < 4096 → item_at pool place ≡ None → held_count pool.places ≢ 4096
    not_full-where_free place within free = λ full.
        all-held_count pool.places (full ∙ sym inside.sound.size) place (omega (arith, within, inside.sound.size)) free

    -- an item that came into the chain of its bucket
    pub IsChained-put : (new : PoolState T) (place bucket : ℕ) (item : T) (first : Option ℕ) → IsAbsent key_of pool.places (key_of item)
        → bucket ≡ bucket_of (key_of item) → bucket < 4096 → first ≡ first_in (line_at pool.lines bucket)
        → item_at pool place ≡ None → place < 4096 → new.places ≡ set pool.places place (Some item)
        → IsInserted pool.lines new.lines bucket first place → IsSound new → IsChained key_of bucket_of new (count + 1)
    IsChained-put new place bucket item first absent bucket_is low first_is free within places_are inserted sound =
        let in_lines : bucket < length pool.lines = omega (arith, low, inside.buckets) in
        let cut = insertion_split pool.lines new.lines bucket first place inserted in_lines (λ after is. first_stands pool.lines bucket after in_lines (sym first_is ∙ is)) in
        let size : place < length pool.places = omega (arith, within, inside.sound.size) in
        record {
          sound = sound;
          buckets = ap length cut.3 ∙ length-set pool.lines bucket (cut.0 ++ place ∷ cut.1) ∙ inside.buckets;
          keyed = subst (AreKeyed key_of) (sym places_are) (AreKeyed-put key_of pool.places inside.keyed place item absent);
          chained = λ line at x stands holds.
              let there : held_at (set pool.places place (Some item)) at ≡ Some x = ap (λ l. held_at l at) (sym places_are) ∙ holds in
              let stood : StandsIn (set pool.lines bucket (cut.0 ++ place ∷ cut.1)) line at = subst (λ l. StandsIn l line at) cut.3 stands in
              elim (cases_eq at place) [
                | inl is ↦
                    let here : held_at (set pool.places place (Some item)) at ≡ Some item = ap (held_at (set pool.places place (Some item))) is ∙ get_or-set_same pool.places place (Some item) None size in
                    let same : item ≡ x = cc in
                    ap (λ y. bucket_of (key_of y)) (sym same) ∙ sym bucket_is ∙ elim (joined_cases pool.lines bucket place cut.0 cut.1 in_lines cut.2 line at stood) [
                      | inl was ↦ absurd (none_is_not_some (item_at pool at) (ap (item_at pool) is ∙ free) (inside.sound.live line at was))
                      | inr it ↦ sym it.1
                    ]
                | inr apart ↦ elim (joined_cases pool.lines bucket place cut.0 cut.1 in_lines cut.2 line at stood) [
                  | inl was ↦ inside.chained line at x was (sym (get_or-set_other pool.places place at (Some item) None apart) ∙ there)
                  | inr it ↦ absurd (apart (sym it.0))
                ]
              ];
          counted = ap (λ n. n + 1) inside.counted ∙ sym (ap held_count places_are ∙ held_count-put pool.places place item size free);
        }

    -- where an item is held, one is counted
    pub some_counted : (place : ℕ) (shown : List (Option T)) → pool.places ≡ shown → IsSome (held_at shown place) → 1 ≤ count
    some_counted place shown is live =
        let item = some_is (held_at shown place) live in
        omega (arith, inside.counted, held_count-take pool.places place item.0 (ap (λ l. held_at l place) is ∙ item.1))

    -- an item that was taken
    pub IsChained-take : (new : PoolState T) (place : ℕ) (item : T) (less : ℕ) → item_at pool place ≡ Some item → less + 1 ≡ count
        → new.places ≡ set pool.places place None → IsRemoved pool.lines new.lines place → IsSound new → IsChained key_of bucket_of new less
    IsChained-take new place item less holds less_is places_are removed sound =
        let live : IsLive pool place = subst IsSome (sym holds) refl in
        let there = inside.sound.stands place live in
        let cut = between_in pool.lines there.0 place there.1 in
        let lines_are : new.lines ≡ set pool.lines there.0 (cut.0 ++ cut.1) = removed there.0 cut.0 cut.1 cut.2 in
        record {
          sound = sound;
          buckets = ap length lines_are ∙ length-set pool.lines there.0 (cut.0 ++ cut.1) ∙ inside.buckets;
          keyed = subst (AreKeyed key_of) (sym places_are) (AreKeyed-take key_of pool.places inside.keyed place);
          chained = λ line at x stands holds_x.
              let was = removed_loses pool.lines inside.sound.once there.0 place cut.0 cut.1 cut.2 line at (subst (λ l. StandsIn l line at) lines_are stands) in
              let own : held_at (set pool.places place None) at ≡ Some x = ap (λ l. held_at l at) (sym places_are) ∙ holds_x in
              inside.chained line at x was.0 (sym (get_or-set_other pool.places place at None None was.1) ∙ own);
          counted = omega (arith, less_is, inside.counted, ap held_count places_are, held_count-take pool.places place item holds);
        }

    -- another item of the same key
    pub IsChained-set : (place : ℕ) (item : T) → Holds key_of pool.places (key_of item) place → IsChained key_of bucket_of (with_item pool place item) count
    IsChained-set place item holds =
        let live : IsLive pool place = subst IsSome (sym holds.1) refl in
        let within = held-within pool.places place holds.0 holds.1 in
        record {
          sound = IsSound-with_item pool place item live inside.sound;
          buckets = inside.buckets;
          keyed = AreKeyed-set key_of pool.places inside.keyed place item holds;
          chained = λ line at x stands holds_x. elim (cases_eq at place) [
            | inl is ↦
                let here : held_at (set pool.places place (Some item)) at ≡ Some item = ap (held_at (set pool.places place (Some item))) is ∙ get_or-set_same pool.places place (Some item) None within in
                let same : item ≡ x = cc in
                ap bucket_of (ap key_of (sym same) ∙ sym holds.2) ∙ inside.chained line at holds.0 stands (ap (item_at pool) is ∙ holds.1)
            | inr apart ↦ inside.chained line at x stands (sym (get_or-set_other pool.places place at (Some item) None apart) ∙ holds_x)
          ];
          counted = inside.counted ∙ sym (held_count-set pool.places place holds.0 item holds.1);
        }

    -- a walk along the chain of a key's bucket
    module _ (key : K) (low : bucket_of key < 4096) where
      in_lines : bucket_of key < length pool.lines
      in_lines = omega (arith, low, inside.buckets)

      abbrev Other : ℕ → Type 0
      Other = IsOther key_of pool.places key

      pub chain-live : (place : ℕ) (at : Option ℕ) → at ≡ Some place → IsWalked (IsOther key_of pool.places key) (line_at pool.lines (bucket_of key)) at → IsLive pool place
      chain-live place at is walked =
          inside.sound.live (bucket_of key) place (walked-stands pool.lines inside.sound.once (bucket_of key) in_lines Other place (subst (IsWalked Other (line_at pool.lines (bucket_of key))) is walked))

      -- a place with another key is passed
      pub chain-next : (place : ℕ) (at next : Option ℕ) → at ≡ Some place → IsWalked (IsOther key_of pool.places key) (line_at pool.lines (bucket_of key)) at
          → IsNext pool.lines place next → IsOther key_of pool.places key place
          → IsWalked (IsOther key_of pool.places key) (line_at pool.lines (bucket_of key)) next
          × (left_from (line_at pool.lines (bucket_of key)) next < left_from (line_at pool.lines (bucket_of key)) at)
      chain-next place at next is walked next_is other =
          let here = subst (IsWalked Other (line_at pool.lines (bucket_of key))) is walked in
          let less = left_from-next pool.lines inside.sound.once (bucket_of key) in_lines Other place here next next_is in (
            IsWalked-next pool.lines inside.sound.once (bucket_of key) in_lines Other place here next next_is other,
            subst (λ o. left_from (line_at pool.lines (bucket_of key)) next < left_from (line_at pool.lines (bucket_of key)) o) (sym is) less,
          )

      -- where the chain ends, no place has the key
      pub chain-end : (at : Option ℕ) → at ≡ None → IsWalked (IsOther key_of pool.places key) (line_at pool.lines (bucket_of key)) at → IsAbsent key_of pool.places key
      chain-end at is walked place item holds same =
          let there = inside.sound.stands place (subst IsSome (sym holds) refl) in
          let line_is : bucket_of (key_of item) ≡ there.0 = inside.chained there.0 place item there.1 holds in
          let own : StandsIn pool.lines (bucket_of key) place = subst (λ k. StandsIn pool.lines k place) (sym line_is ∙ ap bucket_of same) there.1 in
          walked-all pool.lines inside.sound.once (bucket_of key) in_lines Other (subst (IsWalked Other (line_at pool.lines (bucket_of key))) is walked) place own.1 item holds same
