-- What contracts see of a lock, and the rule of the table that it is made of.
use Rattle.std.specs.Prelude.{◌≡◌, ℕ, ◌==◌, ◌⊎◌, [], ◌∷◌, MatchBool, Option, Some}
use mathlib.Core.Option.{none, some}
use lib.ListN.{get_elem?}
use Rattle.atomic_table.specs.Table.{State, Me, Step, rest}
use Rattle.atomic_table.specs.Seated.{TableId}

-- a lock, or who holds it: which table it is, and the key whose promise the value keeps
pub record Keyed (K : Type 0) : Type 0 where
  pub table : TableId
  pub key : K

-- the lock is free: the word is 0, and the value is at home and keeps the promise
abbrev pub IsFree : {K T : Type 0} → (K → T → Type 0) → K → State (Option T) K → Type 0
IsFree {K} {T} keeps key state = (value : T) × (state.words ≡ 0 ∷ []) × (state.homes ≡ some (Some value) ∷ []) × keeps key value

-- the word of a lock that is taken: 2 where others may sleep until it is free
abbrev pub IsBusy : ℕ → Type 0
IsBusy word = (word ≡ 1) ⊎ (word ≡ 2)

-- the lock is taken: the word says so, and the value is with who took it
abbrev pub IsTaken : {K T : Type 0} → State (Option T) K → Type 0
IsTaken state = (word : ℕ) × IsBusy word × (state.words ≡ word ∷ []) × (state.homes ≡ none ∷ [])

-- the rule: the lock is free or taken, and each seat knows the key
pub record IsKept {K T : Type 0} (keeps : K → T → Type 0) (key : K) (state : State (Option T) K) : Type 0 where
  pub place : IsFree keeps key state ⊎ IsTaken state
  pub views : (id : ℕ) (view : K) → get_elem? state.views id ≡ some view → view ≡ key

-- a new seat knows the key and holds nothing
abbrev pub sat : {K T : Type 0} → Step (Option T) → Me (Option T) K → ℕ → Me (Option T) K → Type 0
sat step before found after = after ≡ before

-- a try to take the lock: where the word was 0 the seat has got the value, which keeps the promise, and
-- else nothing has changed
abbrev pub tried : {K T : Type 0} → (K → T → Type 0) → Step (Option T) → Me (Option T) K → ℕ → Me (Option T) K → Type 0
tried {K} {T} keeps step before found after =
    MatchBool (found == 0) ((value : T) × (after ≡ (before.0, (0, Some value) ∷ [])) × keeps before.0 value) (after ≡ before)

-- the lock is given back, with what the seat has put into its slot
abbrev pub given : {K T : Type 0} → Step (Option T) → Me (Option T) K → ℕ → Me (Option T) K → Type 0
given step before found after = after ≡ (before.0, rest before.1)
