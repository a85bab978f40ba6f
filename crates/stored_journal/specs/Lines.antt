-- The lines that a disk stores of a journal.
use Rattle.std.specs.Prelude.{◌≡◌, ℕ, ◌+◌, List, [], ◌∷◌, ◌++◌, Option, Some}
use Rattle.disk_model.specs.Contents.{Contents}
use Rattle.durable_journal.specs.Stored.{StoresLines}
use Rattle.journal_print.specs.Json.{braces}
use Rattle.journal_print.specs.Line.{entry_members}
use Rattle.market_model.specs.declared.entry.Entry.{Entry}
use Rattle.market_model.specs.declared.setup.Setup.{Setup}

-- the line of an entry that stands at this place of the journal, without its line feed
abbrev pub stored_line : Setup → (place : ℕ) → Entry → List ℕ
stored_line setup place entry = braces (entry_members setup place entry)

-- the lines of entries of which the first stands at a place of the journal
abbrev pub stored_from : Setup → (place : ℕ) → List Entry → List (List ℕ)
stored_from setup place [] = []
stored_from setup place (entry ∷ entries) = stored_line setup place entry ∷ stored_from setup (place + 1) entries

-- what is stored of a journal: the line of each entry, in order
abbrev pub stored_lines : Setup → List Entry → List (List ℕ)
stored_lines setup entries = stored_from setup 1 entries

-- an image is not damaged, and stores the first of these lines, however many
pub record StoresFront (lines : List (List ℕ)) (image : List ℕ) : Type 0 where
  pub front : List (List ℕ)
  pub rest : List (List ℕ)
  pub whole : lines ≡ front ++ rest
  pub stores : StoresLines image front

-- a disk with these contents tells them
abbrev pub TellsContents : Option Contents → Type 0
TellsContents contents = (told : Contents) × (contents ≡ Some told)
