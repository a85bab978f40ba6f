-- A record: the text of a session, a line between, and the text of its journal.
use Rattle.std.specs.Prelude.{◌≡◌, ℕ, List, ◌++◌, Ok, Err, codes, decimal, length}
use Rattle.market_model.specs.declared.entry.Entry.{Entry}
use Rattle.market_model.specs.declared.setup.Setup.{Setup}
use Rattle.market_model.specs.History.{journal_events}
use Rattle.market_text.specs.declared.session.Session.{Session}
use Rattle.journal_audit.specs.Reading.{session_of_divided}
use Rattle.journal_audit.specs.Audit.{IsJournalWith, IsNoJournal}
use Rattle.ship_schedule.specs.ScheduleText.{schedule_text}

-- the line between them
abbrev pub dividing_line : List ℕ
dividing_line = codes "journal"

-- bytes are a record whose journal is complete: this is its session, and these are the journal's entries
pub record IsRecord (bytes : List ℕ) (session : Session) (entries : List Entry) : Type 0 where
  pub journal : List ℕ
  pub divided : session_of_divided dividing_line bytes ≡ Ok (session, journal)
  pub complete : IsJournalWith session journal entries

-- bytes are a record whose journal is not complete: its first fault is at this entry
pub record IsIllegalRecord (bytes : List ℕ) (entry : ℕ) : Type 0 where
  pub session : Session
  pub journal : List ℕ
  pub divided : session_of_divided dividing_line bytes ≡ Ok (session, journal)
  pub incomplete : IsNoJournal session journal entry

-- bytes are no record: this is the bad line
abbrev pub IsBadRecord : (bytes : List ℕ) (line : ℕ) → Type 0
IsBadRecord bytes line = session_of_divided dividing_line bytes ≡ Err line

-- bytes are a record whose journal is complete, and this is what is written of it
pub record IsMadeOf (text : Setup → List Entry → List ℕ) (bytes written : List ℕ) : Type 0 where
  pub session : Session
  pub entries : List Entry
  pub recorded : IsRecord bytes session entries
  pub made : written ≡ text session.setup entries

-- what is written of a complete journal: how many entries it has
abbrev pub legal_line : (entries : ℕ) → List ℕ
legal_line entries = codes "legal " ++ (decimal entries ++ codes "\n")

abbrev pub verdict_of : Setup → List Entry → List ℕ
verdict_of setup entries = legal_line (length entries)

-- or the schedule of what happened
abbrev pub schedule_of : Setup → List Entry → List ℕ
schedule_of setup entries = schedule_text setup (journal_events entries)
