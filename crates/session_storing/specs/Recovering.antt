-- A session that goes on behind the lines that an image stores.
use Rattle.std.specs.Prelude.{◌≡◌, ℕ, ◌≤◌, Bool, true, false, List, [], ◌∷◌, ◌++◌, codes, length, nat_lt, ◌<◌, Option}
use Rattle.disk_model.specs.Contents.{Contents}
use Rattle.durable_journal.specs.Appending.{most_stored}
use Rattle.durable_journal.specs.Resting.{HoldsLines}
use Rattle.durable_journal.specs.Stored.{StoresLines, image_of}
use Rattle.market_model.specs.declared.entry.Entry.{Entry}
use Rattle.market_model.specs.declared.setup.Setup.{Setup}
use Rattle.market_text.specs.declared.session.Session.{Session}
use Rattle.journal_audit.specs.Audit.{AreRightThroughout, IsFirstWrongAmong}
use Rattle.journal_audit.specs.Course.{IsNextLine, callers_of}
use Rattle.journal_audit.specs.Lines.{callers_named, ended_lines}
use Rattle.session_storing.specs.Playing.{IsPlaying, PlayState, journal_in_order, lines_in_order, lines_played, turns_of}

-- ---- which turns are left

-- a turn before others, unless it was given
abbrev pub unless_given : (given : Bool) → (turn : ℕ) → (turns : List ℕ) → List ℕ
unless_given true turn turns = turns
unless_given false turn turns = turn ∷ turns

-- behind the turns that are past: those that are left, where callers have given commands
abbrev pub left_behind : (past given turns : List ℕ) → List ℕ
left_behind past given [] = []
left_behind past given (turn ∷ turns) =
    unless_given (nat_lt (turns_of past turn) (turns_of given turn)) turn (left_behind (past ++ turn ∷ []) given turns)

-- the turns that are left where callers have given commands: of each caller all but the first, as many as it has given
abbrev pub turns_left : (given turns : List ℕ) → List ℕ
turns_left given turns = left_behind [] given turns

-- the callers that stored lines name, in order, and then the turns that are left
abbrev pub order_behind : Setup → (turns : List ℕ) → (lines : List (List ℕ)) → List ℕ
order_behind setup turns lines = callers_named setup (ended_lines lines) ++ turns_left (callers_named setup (ended_lines lines)) turns

-- ---- stored lines

-- an image stores lines, each of which is right
pub record StoresRightLines (session : Session) (image : List ℕ) : Type 0 where
  pub lines : List (List ℕ)
  pub stores : StoresLines image lines
  pub right : AreRightThroughout session (ended_lines lines)

-- an image stores lines, of which this is the first that is not right
pub record StoresWrongLine (session : Session) (image : List ℕ) (entry : ℕ) : Type 0 where
  pub lines : List (List ℕ)
  pub stores : StoresLines image lines
  pub wrong : IsFirstWrongAmong session (ended_lines lines) entry

-- ---- playing

-- a stored line is that of the next command of the caller that it names, which was played
pub record IsPlayedLine (session : Session) (old : PlayState) (line : List ℕ) (new : PlayState) : Type 0 where
  pub entry : Entry
  pub next : IsNextLine session old.entries (line ++ codes "\n") entry
  pub grew : new.entries ≡ old.entries ++ entry ∷ []
  pub playing : IsPlaying session new
  pub stored : lines_played new ≡ lines_played old ++ line ∷ []

-- stored lines are right, and what they tell was played
pub record ArePlayed (session : Session) (lines : List (List ℕ)) (state : PlayState) : Type 0 where
  pub playing : IsPlaying session state
  pub right : AreRightThroughout session (ended_lines lines)
  pub callers : callers_of state.entries ≡ callers_named session.setup (ended_lines lines)
  pub stored : lines_played state ≡ lines

-- a session was played behind the right lines of an image, and all its lines are stored
pub record IsRecovered (session : Session) (turns image : List ℕ) (contents : Option Contents) (state : PlayState) : Type 0 where
  pub front : StoresRightLines session image
  pub playing : IsPlaying session state
  pub entries : state.entries ≡ journal_in_order session (order_behind session.setup turns front.lines)
  pub place : ℕ
  pub holds : HoldsLines contents (lines_in_order session (order_behind session.setup turns front.lines)) place
  pub fits : length image ≤ most_stored → length (image_of (lines_in_order session (order_behind session.setup turns front.lines))) ≤ most_stored

-- all lines of a session behind the right lines of an image are too large to be stored
pub record IsTooLargeBehind (session : Session) (turns image : List ℕ) : Type 0 where
  pub front : StoresRightLines session image
  pub large : most_stored < length (image_of (lines_in_order session (order_behind session.setup turns front.lines)))
