-- What a run does to its sink, by how it ends.
use Rattle.std.specs.Prelude.{◌≡◌, ◌≤◌, ℕ, List, Option, Ok, Some, length}
use Rattle.market_text.specs.declared.session.Session.{Session}
use Rattle.market_text.specs.Text.{session_of_text}
use Rattle.session_io.specs.Reading.{longest_session}
use Rattle.session_io.specs.Outcomes.{Answers, EndsWell, IsWritten, IsWrittenInPart}
use Rattle.journal_audit.specs.Journal.{IsJournalOf, IsTradedJournalOf}
use Rattle.session_run.specs.Journal.{IsSummaryOf}
use Rattle.session_run.specs.Reading.{HasNoEntry, IsBadText}
use Rattle.session_io.specs.declared.status.Status.{Status}
use Rattle.session_io.specs.declared.status.Status.TheVariants as status

-- a run that reads these bytes to their end, and is asked to write such a text: it wrote the whole of one, or a first
-- part; where memory was wanting it wrote a first part or nothing; where the bytes are no session their first bad line
-- is told
abbrev pub Played : (IsAsked : List ℕ → Type 0) (bytes : List ℕ) → Status → (old new : Option (List ℕ)) → Type 0
Played IsAsked bytes end old new = Answers IsAsked (IsBadText bytes) (HasNoEntry bytes) end old new

-- a run over a source that gives these bytes, of which some read or write may have failed: where none did, and the bytes
-- are a session within the limit, it ends well
abbrev pub CompletesSessions : (left : Option (List ℕ)) (read_failed write_failed : Type 0) → Status → Type 0
CompletesSessions left read_failed write_failed end = (bytes : List ℕ) (session : Session) → left ≡ Some bytes → session_of_text bytes ≡ Ok session
    → length bytes ≤ longest_session → ¬ read_failed → ¬ write_failed → EndsWell end

-- a run of `replay`: the text is that of the journal of the session with its callers in the order of its lines
abbrev pub Replayed : (bytes : List ℕ) → Status → (old new : Option (List ℕ)) → Type 0
Replayed bytes status old new = Played (IsJournalOf bytes) bytes status old new

-- a run of `trade`: the text is that of the journal of the session with its callers in whatever order they came
abbrev pub Traded : (bytes : List ℕ) → Status → (old new : Option (List ℕ)) → Type 0
Traded bytes status old new = Played (IsTradedJournalOf bytes) bytes status old new

-- a run of `generate` for so many commands: it wrote the whole summary; or a write failed or memory
-- was wanting, and it wrote a first part; it ends in no other way
abbrev pub Generated : (commands : ℕ) → Status → (old new : Option (List ℕ)) → Type 0
Generated commands status.Done old new = IsWritten (IsSummaryOf commands) old new
Generated commands status.WriteFault old new = IsWrittenInPart (IsSummaryOf commands) old new
Generated commands status.NoMemory old new = IsWrittenInPart (IsSummaryOf commands) old new
Generated commands _ old new = ⊥
