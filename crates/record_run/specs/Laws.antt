-- A session and its printed journal are a record.
use Rattle.std.specs.Prelude.{ℕ, List, ◌++◌, codes}
use Rattle.session_journal.specs.Journal.{journal_of_session}
use Rattle.session_journal.specs.Turns.{taking_turns}
use Rattle.journal_audit.specs.Journal.{IsJournalOf, IsTradedJournalOf}
use Rattle.record_run.specs.Records.{IsRecord, dividing_line}

-- an input, the dividing line behind it, and behind that a journal
abbrev pub recorded : (bytes written : List ℕ) → List ℕ
recorded bytes written = bytes ++ (dividing_line ++ (codes "\n" ++ written))

-- where bytes are a session and a text is that of its journal, they are together a record whose journal is complete
abbrev pub PrintedJournalsMakeRecords : Type 0
PrintedJournalsMakeRecords = (bytes written : List ℕ) (is : IsJournalOf bytes written)
    → IsRecord (recorded bytes written) is.session (journal_of_session is.session)

-- and so they are where its callers came in any order
abbrev pub TradedJournalsMakeRecords : Type 0
TradedJournalsMakeRecords = (bytes written : List ℕ) (is : IsTradedJournalOf bytes written)
    → IsRecord (recorded bytes written) is.session (journal_of_session (taking_turns is.session is.turns))
