-- Laws of stored lines.
use Rattle.std.specs.Prelude.{◌≡◌, ℕ, List, length}
use Rattle.durable_journal.specs.Stored.{AreLines, blocks, image_of, Stores, IsDamaged}

-- the image of lines stores these lines, and they end at the closed gate behind them
abbrev pub ImagesStoreTheirLines : Type 0
ImagesStoreTheirLines = (lines : List (List ℕ)) → AreLines lines → Stores (image_of lines) lines (length (blocks lines))

-- an image stores no other lines than those that it stores, and they end at one place
abbrev pub StoredLinesAreUnique : Type 0
StoredLinesAreUnique = (image : List ℕ) (lines others : List (List ℕ)) (place other : ℕ)
    → Stores image lines place → Stores image others other → (lines ≡ others) × (place ≡ other)

-- an image that is damaged is so at one place, and it stores nothing
abbrev pub DamageIsUnique : Type 0
DamageIsUnique = (image : List ℕ) (place : ℕ) → IsDamaged image place
    → ((other : ℕ) → IsDamaged image other → place ≡ other)
    × ((lines : List (List ℕ)) (end : ℕ) → Stores image lines end → ⊥)
