-- An empty disk stores no line, and is not damaged.
use Rattle.std.proofs.Common.{◌≡◌, ℕ, List, [], arith}
use Rattle.durable_journal.specs.Stored.{IsDamaged, StoresLines, Stores}
use Rattle.durable_journal.proofs.Parsing.{short_stores_none}
use Rattle.durable_journal.proofs.Steps.{short_stores}

pub empty-stores : StoresLines [] []
empty-stores = short_stores [] (omega arith)

pub empty-lines : (lines : List (List ℕ)) (place : ℕ) → Stores [] lines place → lines ≡ []
empty-lines lines place stores = short_stores_none [] lines (omega arith) (place, stores)

pub empty-whole : (place : ℕ) → IsDamaged [] place → ⊥
empty-whole place damaged = omega (arith, damaged.long)
