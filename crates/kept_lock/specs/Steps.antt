-- What is to be true of each kind of step on the table of a lock: it keeps the rule from every state
-- that meets it. These are statements; a function's contract says that they hold.
use Rattle.std.specs.Prelude.{ℕ, ◌==◌, [], ◌∷◌, Some}
use mathlib.Core.Option.{none}
use prog.Atomic.{either}
use Rattle.atomic_table.specs.Table.{Allows, Enters, opening, step}
use Rattle.kept_lock.specs.Lock.{IsKept, sat, tried, given}

-- a table is made: the word is 0, and the value at home
abbrev pub MakingKeeps : {K T : Type 0} → (K → T → Type 0) → Type 0
MakingKeeps {K} {T} keeps = (key : K) (value : T) → keeps key value → IsKept keeps key (opening (0 ∷ []) (Some value ∷ []) key)

-- a load makes a new seat
abbrev pub SittingKeeps : {K T : Type 0} → (K → T → Type 0) → Type 0
SittingKeeps {K} {T} keeps = (key : K) (slots : ℕ)
    → Enters (IsKept keeps key) slots 0 (λ found view. sat {K = K} {T = T} (step slots 0 0 0 none) (key, []) found (view, []))

-- a compare and exchange of 0 for 1 takes the slot where it is at home
abbrev pub TakingKeeps : {K T : Type 0} → (K → T → Type 0) → Type 0
TakingKeeps {K} {T} keeps = (key : K) (slots id : ℕ)
    → Allows (IsKept keeps key) slots id (key, []) 0 (λ word. either (word == 0) 1 word) (tried keeps (step slots 0 0 1 none) (key, []))

-- a swap of the word for 2 takes the slot where it is at home
abbrev pub AskingKeeps : {K T : Type 0} → (K → T → Type 0) → Type 0
AskingKeeps {K} {T} keeps = (key : K) (slots id : ℕ)
    → Allows (IsKept keeps key) slots id (key, []) 0 (λ word. 2) (tried keeps (step slots 0 2 0 none) (key, []))

-- a swap of the word for 0 gives the slot back, with a value that keeps the promise
abbrev pub GivingKeeps : {K T : Type 0} → (K → T → Type 0) → Type 0
GivingKeeps {K} {T} keeps = (key : K) (value : T) (slots id : ℕ) → keeps key value
    → Allows (IsKept keeps key) slots id (key, (0, Some value) ∷ []) 0 (λ word. 0) (given (step slots 0 0 0 none) (key, (0, Some value) ∷ []))
