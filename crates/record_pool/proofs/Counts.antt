-- How many places hold an item.
use Rattle.std.proofs.Common.{◌≡◌, ◌≢◌, ℕ, zero, suc, ◌+◌, ◌<◌, ◌≤◌, List, [], ◌∷◌, length, set, Option, Some, None, IsSome, refl, ap, arith}
use Rattle.record_pool.specs.Keyed.{held_at, held_count}

module _ {T : Type 0} where
  -- a place that held nothing holds an item now
  pub held_count-put : (places : List (Option T)) (place : ℕ) (item : T) → place < length places → held_at places place ≡ None
      → held_count (set places place (Some item)) ≡ held_count places + 1
  held_count-put [] place item within free = absurd (omega (arith, within))
  held_count-put (None ∷ places) zero item within free = omega arith
  held_count-put (Some held ∷ places) zero item within free = absurd (cc)
  held_count-put (None ∷ places) (suc place) item within free = held_count-put places place item (omega (arith, within)) free
  held_count-put (Some held ∷ places) (suc place) item within free =
      let rest = held_count-put places place item (omega (arith, within)) free in omega (arith, rest)

  -- a place that held an item holds nothing now
  pub held_count-take : (places : List (Option T)) (place : ℕ) (item : T) → held_at places place ≡ Some item
      → held_count (set places place None) + 1 ≡ held_count places
  held_count-take [] place item holds = absurd (cc)
  held_count-take (None ∷ places) zero item holds = absurd (cc)
  held_count-take (Some held ∷ places) zero item holds = omega arith
  held_count-take (None ∷ places) (suc place) item holds = held_count-take places place item holds
  held_count-take (Some held ∷ places) (suc place) item holds =
      let rest = held_count-take places place item holds in omega (arith, rest)

  -- a place holds another item in the stead of one
  pub held_count-set : (places : List (Option T)) (place : ℕ) (old item : T) → held_at places place ≡ Some old
      → held_count (set places place (Some item)) ≡ held_count places
  held_count-set [] place old item holds = absurd (cc)
  held_count-set (None ∷ places) zero old item holds = absurd (cc)
  held_count-set (Some held ∷ places) zero old item holds = refl
  held_count-set (None ∷ places) (suc place) old item holds = held_count-set places place old item holds
  held_count-set (Some held ∷ places) (suc place) old item holds = ap suc (held_count-set places place old item holds)

  pub held_count-most : (places : List (Option T)) → held_count places ≤ length places
  held_count-most [] = omega arith
  held_count-most (None ∷ places) = let rest = held_count-most places in omega (arith, rest)
  held_count-most (Some held ∷ places) = let rest = held_count-most places in omega (arith, rest)

  -- every place holds an item exactly where as many are held as there are places
  pub held_count-all : (places : List (Option T)) → ((place : ℕ) → place < length places → IsSome (held_at places place)) → held_count places ≡ length places
  held_count-all [] all = refl
  held_count-all (None ∷ places) all = absurd (let none = all 0 (omega arith) in cc)
  held_count-all (Some held ∷ places) all = ap suc (held_count-all places (λ place within. all (suc place) (omega (arith, within))))

  pub all-held_count : (places : List (Option T)) → held_count places ≡ length places → (place : ℕ) → place < length places → held_at places place ≢ None
  all-held_count [] full place within = absurd (omega (arith, within))
  all-held_count (None ∷ places) full place within = absurd (omega (arith, full, held_count-most places))
  all-held_count (Some held ∷ places) full zero within = λ e. absurd (cc)
  all-held_count (Some held ∷ places) full (suc place) within = all-held_count places (omega (arith, full)) place (omega (arith, within))

-- places that hold nothing
pub held_count-none : {T : Type 0} (places : List (Option T)) → ((place : ℕ) → held_at places place ≡ None) → held_count places ≡ 0
held_count-none [] free = refl
held_count-none (None ∷ places) free = held_count-none places (λ place. free (suc place))
held_count-none (Some held ∷ places) free = absurd (let none = free 0 in cc)
