-- The words of a command line, and what they ask for.
use Rattle.std.specs.Prelude.{◌≡◌, ℕ, ◌≤◌, ◌⊎◌, Bool, ◌&&◌, false, List, [], ◌∷◌, codes, decimal, nat_le, Option, Some, None, if◌then◌else◌}
use Rattle.std.specs.Option.{option_map}
use Rattle.std.specs.Str.{bytes_eq}
use Rattle.std.specs.Str.Parse.{digits_value}
use Rattle.command_words.specs.declared.words.Task.{Task}
use Rattle.command_words.specs.declared.words.Task.TheVariants as task

-- a word is the decimal spelling of a number, without leading zeros, and the number is from 1 to 100000
abbrev pub is_count : List ℕ → ℕ → Bool
is_count word number = bytes_eq word (decimal number) && (nat_le 1 number && nat_le number 100000)

-- the number from 1 to 100000 that a word spells, if it spells one
unfoldable pub count_of : List ℕ → Option ℕ
count_of word = if is_count word (digits_value 10 word) then Some (digits_value 10 word) else None

-- what one word asks for, if it asks for anything
abbrev pub task_of_word : List ℕ → Option Task
task_of_word word =
    if bytes_eq word (codes "replay") then Some task.Replay
    else if bytes_eq word (codes "audit") then Some task.Audit
    else if bytes_eq word (codes "ship") then Some task.Ship
    else if bytes_eq word (codes "store") then Some task.Store
    else if bytes_eq word (codes "recover") then Some task.Recover
    else None

-- what a list of words asks for, if it asks for anything: one word that does, or `generate` and a
-- number
abbrev pub task_of : List (List ℕ) → Option Task
task_of (word ∷ []) = task_of_word word
task_of (word ∷ count ∷ []) = if bytes_eq word (codes "generate") then option_map task.Generate (count_of count) else None
task_of _ = None

-- a number of commands to generate is from 1 to 100000
abbrev pub IsInRange : Option Task → Type 0
IsInRange (Some (task.Generate commands)) = (1 ≤ commands) × (commands ≤ 100000)
IsInRange _ = Unit {0}

-- words that read a record, a session with its journal: `audit` and `ship`
abbrev pub ReadsRecord : Option Task → Type 0
ReadsRecord asked = (asked ≡ Some task.Audit) ⊎ (asked ≡ Some task.Ship)

-- words that work on a disk: `store` and `recover`
abbrev pub WorksOnDisk : Option Task → Type 0
WorksOnDisk asked = (asked ≡ Some task.Store) ⊎ (asked ≡ Some task.Recover)

-- the one word `trade`
abbrev pub is_trade : List (List ℕ) → Bool
is_trade (word ∷ []) = bytes_eq word (codes "trade")
is_trade _ = false
