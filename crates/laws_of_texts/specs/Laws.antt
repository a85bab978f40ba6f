-- What is read is what the grammar has, and makes a grid; and the line that is reported is the first
-- bad one.
use Rattle.std.specs.Prelude.{◌≡◌, ℕ, List, Result, Ok, Err, None}
use Rattle.zone_graph.specs.Grid.{JoinsZones}
use Rattle.zone_graph.specs.GridFault.{grid_fault}
use Rattle.market_model.specs.Grid.{graph_of}
use Rattle.market_text.specs.declared.fault.TextFault.{TextFault}
use Rattle.market_text.specs.declared.fault.TextFault.TheVariants as fault
use Rattle.market_text.specs.declared.session.Session.{Session}
use Rattle.market_text.specs.Session.{IsSession}
use Rattle.market_text.specs.Text.{session_of_text, IsAnswer}
use Rattle.laws_of_texts.specs.Grammar.{IsSessionText, IsFirstBadLine}

-- the text of which a session is read is one of that session
abbrev pub AcceptedIsInGrammar : Type 0
AcceptedIsInGrammar = (bytes : List ℕ) (session : Session) → session_of_text bytes ≡ Ok session → IsSessionText bytes session

-- of the text of a session that session is read
abbrev pub GrammarIsAccepted : Type 0
GrammarIsAccepted = (bytes : List ℕ) (session : Session) → IsSessionText bytes session → session_of_text bytes ≡ Ok session

-- the line that is reported is the first bad one
abbrev pub ReportedIsFirstBad : Type 0
ReportedIsFirstBad = (bytes : List ℕ) (line : ℕ) → session_of_text bytes ≡ Err line → IsFirstBadLine bytes line

-- the first bad line is reported
abbrev pub FirstBadIsReported : Type 0
FirstBadIsReported = (bytes : List ℕ) (line : ℕ) → IsFirstBadLine bytes line → session_of_text bytes ≡ Err line

-- an answer to a text, in the grammar's words: the session whose text it is, or its first bad line;
-- want of memory says nothing
abbrev pub IsAnswerByGrammar : List ℕ → Result Session TextFault → Type 0
IsAnswerByGrammar bytes (Ok session) = IsSessionText bytes session
IsAnswerByGrammar bytes (Err (fault.BadSession line)) = IsFirstBadLine bytes line
IsAnswerByGrammar bytes (Err fault.NoMemory) = Unit {0}

-- every answer to a text is one by the grammar
abbrev pub AnswersAreByGrammar : Type 0
AnswersAreByGrammar = (bytes : List ℕ) (result : Result Session TextFault) → IsAnswer (session_of_text bytes) result → IsAnswerByGrammar bytes result

-- a session that is read keeps all that a session promises
abbrev pub TextsAreSessions : Type 0
TextsAreSessions = (bytes : List ℕ) (session : Session) → session_of_text bytes ≡ Ok session → IsSession session

-- the zones and borders of a session that is read make a grid
abbrev pub SessionsMakeGrids : Type 0
SessionsMakeGrids = (bytes : List ℕ) (session : Session) → session_of_text bytes ≡ Ok session
    → JoinsZones (graph_of session.setup) × (grid_fault (graph_of session.setup) ≡ None)
