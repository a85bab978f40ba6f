-- How an append ends.
use Rattle.std.specs.Prelude.{◌≡◌, ℕ, ◌+◌, ◌<◌, List, [], ◌∷◌, ◌++◌, ◌⊎◌, length}
use Rattle.durable_journal.specs.declared.faults.AppendFault.{AppendFault}
use Rattle.durable_journal.specs.declared.faults.AppendFault.TheVariants as fault
use Rattle.durable_journal.specs.Stored.{StoresLines}

-- the most bytes that the stored lines have, with the closed gate behind them
abbrev pub most_stored : ℕ
most_stored = 67108864

-- the place where the lines end once this one is behind those that end at a place
abbrev pub end_behind : (place : ℕ) → (line : List ℕ) → ℕ
end_behind place line = place + 9 + length line

-- the bytes up to and with the closed gate behind it
abbrev pub size_behind : (place : ℕ) → (line : List ℕ) → ℕ
size_behind place line = end_behind place line + 1

-- the image stores the lines from before, or these and the new one
abbrev pub StoresOldOrNew : (lines : List (List ℕ)) → (line : List ℕ) → (image : List ℕ) → Type 0
StoresOldOrNew lines line image = StoresLines image lines ⊎ StoresLines image (lines ++ line ∷ [])

-- the place comes back where nothing was written, and the size that would have been too large
abbrev pub GivesBack : (place : ℕ) → (line : List ℕ) → AppendFault → Type 0
GivesBack place line fault.DiskFault = Unit {0}
GivesBack place line (fault.TooLarge back size) = (back ≡ place) × (size ≡ size_behind place line) × (most_stored < size)
GivesBack place line (fault.NoMemory back) = back ≡ place

-- nothing was written
abbrev pub WroteNothing : AppendFault → Type 0 → Type 0
WroteNothing fault.DiskFault unchanged = Unit {0}
WroteNothing (fault.TooLarge back size) unchanged = unchanged
WroteNothing (fault.NoMemory back) unchanged = unchanged
