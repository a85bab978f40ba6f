-- The text of a journal.
use Rattle.std.specs.Prelude.{ℕ, ◌+◌, List, [], ◌∷◌, ◌++◌}
use Rattle.journal_print.specs.Line.{entry_line}
use Rattle.market_model.specs.declared.entry.Entry.{Entry}
use Rattle.market_model.specs.declared.setup.Setup.{Setup}

-- the lines of entries of which the first stands at a place of the journal
abbrev pub lines_from : Setup → (place : ℕ) → List Entry → List ℕ
lines_from setup place [] = []
lines_from setup place (entry ∷ entries) = entry_line setup place entry ++ lines_from setup (place + 1) entries

-- the text of a journal: the line of each entry, in order
abbrev pub journal_text : Setup → List Entry → List ℕ
journal_text setup entries = lines_from setup 1 entries
