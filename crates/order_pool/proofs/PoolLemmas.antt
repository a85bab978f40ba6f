-- What a pool keeps while places move between its rings.
use Rattle.std.proofs.Common.{◌≡◌, ◌≢◌, inl, inr, ℕ, zero, suc, ◌+◌, ◌<◌, ◌≤◌, List, [], ◌∷◌, ◌++◌, length, get_or, set, drop, sum_by, Contains, Option, Some, None, IsSome, refl, sym, ap, ◌∙◌, subst, arith}
use Rattle.std.proofs.lemmas.Bool.{cases_eq, cases_lt}
use Rattle.std.proofs.lemmas.List.{get_or-set_same, get_or-set_other, length-set, get_or-drop, length-drop, drop-set-add, drop-set-lt, get_or_past}
use Rattle.std.proofs.lemmas.List.Sums.{sum_by-cons}
use Rattle.order_pool.specs.Lines.{line_at, first_in, StandsIn, StandsBetween, IsInserted, IsRemoved, IsMoved}
use Rattle.order_pool.specs.Rings.{AreRings}
use Rattle.order_pool.specs.Pool.{PoolState, IsLive, with_item, IsSound}
use Rattle.order_pool.specs.Slots.{IsPool}
use Rattle.order_pool.proofs.OnceLemmas.{insertion_split}
use Rattle.order_pool.proofs.MoveLemmas.{IsShifted, between_in}

-- the lines are the rings behind the first
pub line_behind : (rings : List (List ℕ)) (line : ℕ) → line_at (drop 1 rings) line ≡ line_at rings (line + 1)
line_behind rings line =
    let e : 1 + line ≡ line + 1 = omega arith in
    get_or-drop 1 rings line [] ∙ ap (line_at rings) e

pub stands_in_ring : (rings : List (List ℕ)) (line place : ℕ) → StandsIn (drop 1 rings) line place → StandsIn rings (line + 1) place
stands_in_ring rings line place stands =
    let Q : List ℕ → Type 0 = λ l. Contains l place in
    (omega (arith, stands.0, length-drop 1 rings), subst Q (line_behind rings line) stands.1)

pub stands_in_line : (rings : List (List ℕ)) (line place : ℕ) → StandsIn rings (line + 1) place → StandsIn (drop 1 rings) line place
stands_in_line rings line place stands =
    let Q : List ℕ → Type 0 = λ l. Contains l place in
    (omega (arith, stands.0, length-drop 1 rings), subst Q (sym (line_behind rings line)) stands.1)

pub between_in_ring : (rings : List (List ℕ)) (line place : ℕ) (front back : List ℕ) → StandsBetween (drop 1 rings) line front place back → StandsBetween rings (line + 1) front place back
between_in_ring rings line place front back stands =
    (omega (arith, stands.0, length-drop 1 rings), sym (line_behind rings line) ∙ stands.1)

-- a change of a ring is one of a line, but for the first ring
pub drop-set-line : (rings : List (List ℕ)) (line : ℕ) (ring : List ℕ) → drop 1 (set rings (line + 1) ring) ≡ set (drop 1 rings) line ring
drop-set-line rings line ring =
    let e : line + 1 ≡ 1 + line = omega arith in
    ap (λ i. drop 1 (set rings i ring)) e ∙ drop-set-add 1 rings line ring

pub drop-set-free : (rings : List (List ℕ)) (ring : List ℕ) → drop 1 (set rings 0 ring) ≡ drop 1 rings
drop-set-free rings ring = drop-set-lt 1 rings 0 ring (omega arith)

-- an insertion into a ring is one into a line
pub inserted_in_line : (rings new : List (List ℕ)) (line : ℕ) (before : Option ℕ) (place : ℕ) → IsInserted rings new (line + 1) before place → IsInserted (drop 1 rings) (drop 1 new) line before place
inserted_in_line rings new line None place inserted =
    ap (drop 1) inserted ∙ drop-set-line rings line (line_at rings (line + 1) ++ place ∷ []) ∙ ap (λ l. set (drop 1 rings) line (l ++ place ∷ [])) (sym (line_behind rings line))
inserted_in_line rings new line (Some after) place inserted =
    λ front back stands. ap (drop 1) (inserted front back (between_in_ring rings line after front back stands)) ∙ drop-set-line rings line (front ++ place ∷ after ∷ back)

-- a place that comes from the first ring joins a line
pub lines_after_insert : (old new : List (List ℕ)) (line place : ℕ) (before : Option ℕ) → StandsIn old 0 place → IsMoved old new place (line + 1) before → IsInserted (drop 1 old) (drop 1 new) line before place
lines_after_insert old new line place before free moved =
    let cut = between_in old 0 place free in
    let inserted = inserted_in_line (set old 0 (cut.0 ++ cut.1)) new line before place (moved 0 cut.0 cut.1 cut.2) in
    let P : List (List ℕ) → Type 0 = λ l. IsInserted l (drop 1 new) line before place in
    subst P (drop-set-free old (cut.0 ++ cut.1)) inserted

-- a place that goes to the first ring leaves its line
pub lines_after_take : (old new : List (List ℕ)) (place : ℕ) (before : Option ℕ) → 0 < length old
    → ((from : ℕ) (front back : List ℕ) → StandsBetween old from front place back → (after : ℕ) → before ≡ Some after → StandsIn (set old from (front ++ back)) 0 after)
    → IsMoved old new place 0 before → IsRemoved (drop 1 old) (drop 1 new) place
lines_after_take old new place before some ahead moved =
    λ line front back stands.
    let there = between_in_ring old line place front back stands in
    let out = set old (line + 1) (front ++ back) in
    let cut = insertion_split out new 0 before place (moved (line + 1) front back there) (omega (arith, some, length-set old (line + 1) (front ++ back))) (ahead (line + 1) front back there) in
    ap (drop 1) cut.3 ∙ drop-set-free out (cut.0 ++ place ∷ cut.1) ∙ drop-set-line old line (front ++ back)

-- the places of the lines are those that are not in the first ring
pub total_behind : (rings : List (List ℕ)) → 0 < length rings → sum_by length rings ≡ length (line_at rings 0) + sum_by length (drop 1 rings)
total_behind [] some = absurd (omega arith)
total_behind (ring ∷ rings) some = sum_by-cons length ring rings

pub none_is_not_some : {T : Type 0} (o : Option T) → o ≡ None → IsSome o → ⊥
none_is_not_some None is some = cc
none_is_not_some (Some x) is some = cc

pub first_in_none : (xs : List ℕ) → first_in xs ≡ None → xs ≡ []
first_in_none [] is = refl
first_in_none (x ∷ xs) is = absurd (cc)

pub first_in_some : (xs : List ℕ) (x : ℕ) → first_in xs ≡ Some x → Contains xs x
first_in_some [] x is = absurd (cc)
first_in_some (y ∷ ys) x is = (0, omega arith, cc)

pub first_stands : (rings : List (List ℕ)) (k place : ℕ) → k < length rings → first_in (line_at rings k) ≡ Some place → StandsIn rings k place
first_stands rings k place within is = (within, first_in_some (line_at rings k) place is)

module _ {T : Type 0} (places : List (Option T)) (rings : List (List ℕ)) (used : ℕ) (pool : IsPool places rings used) where
  -- a place that holds an item was used
  pub live_low : (place : ℕ) → IsSome (get_or places place None) → place < used
  live_low place live =
      elim (cases_lt place used) [
        | inl low ↦ low
        | inr high ↦ absurd (none_is_not_some (get_or places place None) (pool.untouched place high) live)
      ]

  -- and stands in a line
  pub live_stands : (place : ℕ) → IsSome (get_or places place None) → (line : ℕ) × StandsIn rings (line + 1) place
  live_stands place live =
      let there = pool.covered place (live_low place live) in
      by_ring there.0 there.1
    where
      by_ring : (ring : ℕ) → StandsIn rings ring place → (line : ℕ) × StandsIn rings (line + 1) place
      by_ring zero stands = absurd (none_is_not_some (get_or places place None) (pool.free place stands) live)
      by_ring (suc line) stands =
          let e : suc line ≡ line + 1 = omega arith in
          let P : ℕ → Type 0 = λ k. StandsIn rings k place in
          (line, subst P e stands)

  -- what callers know of the pool
  pub pool_is_sound : IsSound (record { places = places; lines = drop 1 rings })
  pool_is_sound =
      record {
        size = pool.size;
        some = omega (arith, length-drop 1 rings, pool.two);
        live = λ line place stands. pool.held line place (stands_in_ring rings line place stands);
        stands = λ place live. let there = live_stands place live in (there.0, stands_in_line rings there.0 place there.1);
        once = λ line other place front back front' back' here there.
            let same = pool.sound.once (line + 1) (other + 1) place front back front' back' (between_in_ring rings line place front back here) (between_in_ring rings other place front' back' there) in
            (omega (arith, same.0), same.1, same.2);
        few = omega (arith, total_behind rings (omega (arith, pool.two)), pool.total, pool.within);
      }

  -- the pool is full exactly where the first ring is empty and every place was used
  pub full_where_none_free : first_in (line_at rings 0) ≡ None → used ≡ 4096 → (sum_by length (drop 1 rings) ≡ 4096) × ((place : ℕ) → place < 4096 → IsSome (get_or places place None))
  full_where_none_free empty all =
      let nothing = first_in_none (line_at rings 0) empty in (
        omega (arith, total_behind rings (omega (arith, pool.two)), pool.total, ap length nothing),
        λ place low. let there = pool.covered place (omega (arith, all, low)) in by_ring place there.0 there.1,
      )
    where
      by_ring : (place ring : ℕ) → StandsIn rings ring place → IsSome (get_or places place None)
      by_ring place zero stands = absurd (omega (arith, stands.1.1, ap length (first_in_none (line_at rings 0) empty)))
      by_ring place (suc line) stands =
          let e : suc line ≡ line + 1 = omega arith in
          let P : ℕ → Type 0 = λ k. StandsIn rings k place in
          pool.held line place (subst P e stands)

  -- a place moves or joins, and holds what belongs where it goes
  pub IsPool-shifted : (new : List (List ℕ)) (place ring grown : ℕ) (slot : Option T) → IsShifted rings new place ring grown → AreRings new → place < used + grown → used + grown ≤ 4096 → ((other : ℕ) → other < used + grown → other ≢ place → other < used)
      → (ring ≡ 0 → slot ≡ None) → (0 < ring → IsSome slot) → IsPool (set places place slot) new (used + grown)
  IsPool-shifted new place ring grown slot shifted sound low fits others empty_if full_if =
      let here : get_or (set places place slot) place None ≡ slot = get_or-set_same places place slot None (omega (arith, low, fits, pool.size)) in
      record {
        size = length-set places place slot ∙ pool.size;
        two = omega (arith, pool.two, shifted.many);
        within = fits;
        free = λ other stands. elim (cases_eq other place) [
          | inl same ↦
              let P : ℕ → Type 0 = λ p. StandsIn new 0 p in
              ap (λ p. get_or (set places place slot) p None) same ∙ here ∙ empty_if (sym (shifted.only 0 (subst P same stands)))
          | inr differs ↦ get_or-set_other places place other slot None differs ∙ pool.free other (shifted.stood 0 other differs stands)
        ];
        held = λ line other stands. elim (cases_eq other place) [
          | inl same ↦
              let P : ℕ → Type 0 = λ p. StandsIn new (line + 1) p in
              let ring_is = shifted.only (line + 1) (subst P same stands) in
              let Q : Option T → Type 0 = λ o. IsSome o in
              subst Q (sym (ap (λ p. get_or (set places place slot) p None) same ∙ here)) (full_if (omega (arith, ring_is)))
          | inr differs ↦
              let Q : Option T → Type 0 = λ o. IsSome o in
              subst Q (sym (get_or-set_other places place other slot None differs)) (pool.held line other (shifted.stood (line + 1) other differs stands))
        ];
        covered = λ other inside. elim (cases_eq other place) [
          | inl same ↦
              let P : ℕ → Type 0 = λ p. StandsIn new ring p in
              (ring, subst P (sym same) shifted.here)
          | inr differs ↦
              let there = pool.covered other (others other inside differs) in
              (there.0, shifted.stays there.0 other differs there.1)
        ];
        low = λ k other stands. elim (cases_eq other place) [
          | inl same ↦ omega (arith, same, low)
          | inr differs ↦ omega (arith, pool.low k other (shifted.stood k other differs stands))
        ];
        untouched = λ other high.
            let differs : other ≢ place = λ same. omega (arith, same, low, high) in
            get_or-set_other places place other slot None differs ∙ pool.untouched other (omega (arith, high));
        total = omega (arith, shifted.total, pool.total);
        sound = sound;
      }

  -- another item at a live place
  pub IsPool-rewritten : (place : ℕ) (item : T) → IsSome (get_or places place None) → IsPool (set places place (Some item)) rings used
  IsPool-rewritten place item live =
      let low = live_low place live in
      let here : get_or (set places place (Some item)) place None ≡ Some item = get_or-set_same places place (Some item) None (omega (arith, low, pool.within, pool.size)) in
      record {
        size = length-set places place (Some item) ∙ pool.size;
        two = pool.two;
        within = pool.within;
        free = λ other stands. elim (cases_eq other place) [
          | inl same ↦ absurd (none_is_not_some (get_or places place None) (ap (λ p. get_or places p None) (sym same) ∙ pool.free other stands) live)
          | inr differs ↦ get_or-set_other places place other (Some item) None differs ∙ pool.free other stands
        ];
        held = λ line other stands. elim (cases_eq other place) [
          | inl same ↦
              let Q : Option T → Type 0 = λ o. IsSome o in
              subst Q (sym (ap (λ p. get_or (set places place (Some item)) p None) same ∙ here)) refl
          | inr differs ↦
              let Q : Option T → Type 0 = λ o. IsSome o in
              subst Q (sym (get_or-set_other places place other (Some item) None differs)) (pool.held line other stands)
        ];
        covered = pool.covered;
        low = pool.low;
        untouched = λ other high.
            let differs : other ≢ place = λ same. omega (arith, same, low, high) in
            get_or-set_other places place other (Some item) None differs ∙ pool.untouched other high;
        total = pool.total;
        sound = pool.sound;
      }

-- a pool with another item at a live place is one
pub IsSound-with_item : {T : Type 0} (pool : PoolState T) (place : ℕ) (item : T) → IsLive pool place → IsSound pool → IsSound (with_item pool place item)
IsSound-with_item {T} pool place item live sound =
    let low : place < length pool.places = elim (cases_lt place (length pool.places)) [
      | inl low ↦ low
      | inr high ↦ absurd (none_is_not_some (get_or pool.places place None) (get_or_past pool.places place None high) live)
    ] in
    let here : get_or (set pool.places place (Some item)) place None ≡ Some item = get_or-set_same pool.places place (Some item) None low in
    let Q : Option T → Type 0 = λ o. IsSome o in
    let kept : (other : ℕ) → IsSome (get_or pool.places other None) → IsSome (get_or (set pool.places place (Some item)) other None) =
    λ other was. elim (cases_eq other place) [
      | inl same ↦ subst Q (sym (ap (λ p. get_or (set pool.places place (Some item)) p None) same ∙ here)) refl
      | inr differs ↦ subst Q (sym (get_or-set_other pool.places place other (Some item) None differs)) was
    ] in
    let was : (other : ℕ) → IsSome (get_or (set pool.places place (Some item)) other None) → IsSome (get_or pool.places other None) =
    λ other is. elim (cases_eq other place) [
      | inl same ↦ subst Q (ap (λ p. get_or pool.places p None) (sym same)) live
      | inr differs ↦ subst Q (get_or-set_other pool.places place other (Some item) None differs) is
    ] in
    record {
      size = length-set pool.places place (Some item) ∙ sound.size;
      some = sound.some;
      live = λ line other stands. kept other (sound.live line other stands);
      stands = λ other is. sound.stands other (was other is);
      once = sound.once;
      few = sound.few;
    }
