-- What holds of every audit.
use Rattle.std.specs.Prelude.{All, ◌≡◌, ◌≢◌, ℕ, ◌<◌, ◌==◌, ◌↔◌, List, Ok, count_by, length}
use Rattle.std.specs.List.{concat}
use Rattle.laws_of_texts.specs.Lines.{IsLine}
use Rattle.journal_print.specs.Line.{caller_name}
use Rattle.market_model.specs.declared.setup.Setup.{Setup}
use Rattle.market_model.specs.Market.{in_turn, run_of}
use Rattle.market_text.specs.Commands.{commands_of}
use Rattle.market_text.specs.Session.{IsSession}
use Rattle.market_text.specs.Text.{session_of_text}
use Rattle.market_text.specs.declared.session.Session.{Session}
use Rattle.session_io.specs.JournalText.{journal_text}
use Rattle.session_journal.specs.Journal.{journal_of_session}
use Rattle.session_journal.specs.Turns.{taking_turns}
use Rattle.journal_audit.specs.Audit.{AreRightThroughout, IsComplete, IsFirstFault, IsFirstWrong, IsFirstWrongAmong, IsJournalWith, IsRightThroughout}
use Rattle.journal_audit.specs.Journal.{IsJournalOf, IsTradedJournalOf}
use Rattle.journal_audit.specs.Lines.{callers_named, ended_lines, journal_lines}

-- the lines of a text, one behind the other, are the text
abbrev pub LinesMakeTheText : Type 0
LinesMakeTheText = (text : List ℕ) → concat (journal_lines text) ≡ text

-- a journal has one first fault at most
abbrev pub FirstFaultIsOne : Type 0
FirstFaultIsOne = (session : Session) (journal : List ℕ) (place other : ℕ) → IsFirstFault session journal place → IsFirstFault session journal other → place ≡ other

-- no two callers have one name
abbrev pub AreNamedApart : Setup → Type 0
AreNamedApart setup = (caller other : ℕ) → caller < other → other < length setup.callers → caller_name setup caller ≢ caller_name setup other

-- no two callers of a session that is read have one name
abbrev pub SessionsAreNamedApart : Type 0
SessionsAreNamedApart = (bytes : List ℕ) (session : Session) → session_of_text bytes ≡ Ok session → AreNamedApart session.setup

-- callers are an order of a session's commands: each is among them as often as it has commands
abbrev pub IsOrder : Session → (callers : List ℕ) → Type 0
IsOrder session callers = (caller : ℕ) → count_by (λ other. other == caller) callers ≡ length (commands_of session.commands caller)

-- a journal is that of an order of a session's commands: the text of what the market makes of them
pub record IsJournalInOrder (session : Session) (journal : List ℕ) : Type 0 where
  pub callers : List ℕ
  pub order : IsOrder session callers
  pub text : journal ≡ journal_text session.setup (run_of session.setup (in_turn session.commands callers))

-- where no two callers have one name, the complete journals of a session are those of the orders of its commands
abbrev pub CompleteJournalsAreInOrder : Type 0
CompleteJournalsAreInOrder = (session : Session) (journal : List ℕ) → IsSession session → AreNamedApart session.setup
    → (IsComplete session journal ↔ IsJournalInOrder session journal)

-- so where bytes are those of a session, the lines of its journal name the session's turns, and those of a journal with its
-- callers in the order of some turns name these
abbrev pub LinesNameTheTurns : Type 0
LinesNameTheTurns = (bytes written : List ℕ)
    → ((is : IsJournalOf bytes written) → callers_named is.session.setup (journal_lines written) ≡ is.session.turns)
    × ((is : IsTradedJournalOf bytes written) → callers_named is.session.setup (journal_lines written) ≡ is.turns)

-- bytes have one journal, and with their callers in the order of some turns one for these turns alone
abbrev pub JournalsAreOne : Type 0
JournalsAreOne = (bytes written other : List ℕ)
    → (IsJournalOf bytes written → IsJournalOf bytes other → written ≡ other)
    × ((is : IsTradedJournalOf bytes written) (also : IsTradedJournalOf bytes other) → (written ≡ other) ↔ (is.turns ≡ also.turns))

-- each is complete, with the entries of the session's turns, or of the order of the turns
abbrev pub JournalsAreComplete : Type 0
JournalsAreComplete = (bytes written : List ℕ)
    → ((is : IsJournalOf bytes written) → IsJournalWith is.session written (journal_of_session is.session))
    × ((is : IsTradedJournalOf bytes written) → IsJournalWith is.session written (journal_of_session (taking_turns is.session is.turns)))

-- lines without a line feed are right, or one is the first that is not, exactly where so are those of the journal that they make
-- with the line feed that ends each
abbrev pub LinesAreAudited : Type 0
LinesAreAudited = (session : Session) (lines : List (List ℕ)) → All IsLine lines
    → (AreRightThroughout session (ended_lines lines) ↔ IsRightThroughout session (concat (ended_lines lines)))
    × ((place : ℕ) → IsFirstWrongAmong session (ended_lines lines) place ↔ IsFirstWrong session (concat (ended_lines lines)) place)
