-- What a run that reads a session does to its source.
use Rattle.std.specs.Prelude.{◌≡◌, ℕ, List, Option, Some, Ok, Err}
use Rattle.market_text.specs.declared.session.Session.{Session}
use Rattle.market_text.specs.Text.{session_of_text}
use Rattle.command_words.specs.declared.words.Task.{Task}
use Rattle.command_words.specs.declared.words.Task.TheVariants as task
use Rattle.session_io.specs.Reading.{longest_record, longest_session}
use Rattle.session_io.specs.declared.status.Status.{Status}
use Rattle.session_io.specs.Sources.{ReadsUpTo, Stops, WasRead}

-- the most bytes that the input of a run may have, by what its words ask for: a record's or that of a session with an image,
-- or a session's
abbrev pub longest_input : Option Task → ℕ
longest_input (Some task.Audit) = longest_record
longest_input (Some task.Ship) = longest_record
longest_input (Some task.Recover) = longest_record
longest_input _ = longest_session

-- these bytes came from the source; they are too many exactly where the run says so, and the
-- source is at its end unless a fault or too many bytes stopped the reading
abbrev pub Reads : (old new : Option (List ℕ)) (end : Status) → Type 0
Reads old new end = ReadsUpTo longest_session old new end

-- bytes are the text of a session
abbrev pub IsTextOf : (session : Session) (bytes : List ℕ) → Type 0
IsTextOf session bytes = session_of_text bytes ≡ Ok session

-- bytes are that of none: this is the first bad line
abbrev pub IsBadText : (bytes : List ℕ) (line : ℕ) → Type 0
IsBadText bytes line = session_of_text bytes ≡ Err line

-- a session alone has no entry that could be illegal
abbrev pub HasNoEntry : (bytes : List ℕ) (entry : ℕ) → Type 0
HasNoEntry bytes entry = ⊥

-- the text of this session came from the source, to its end
abbrev pub ReadsSession : Session → (old new : Option (List ℕ)) → Type 0
ReadsSession session old new = WasRead longest_session (IsTextOf session) old new

-- no session was read, and the run ends so
abbrev pub ReadsNoSession : (old new : Option (List ℕ)) (end : Status) → Type 0
ReadsNoSession old new end = Stops longest_session IsBadText HasNoEntry old new end
