-- The text of a session's journal.
use Rattle.std.specs.Prelude.{◌≡◌, ℕ, List, Ok}
use Rattle.market_text.specs.declared.session.Session.{Session}
use Rattle.market_text.specs.Text.{session_of_text}
use Rattle.session_io.specs.JournalText.{journal_text}
use Rattle.session_journal.specs.Journal.{journal_of_session}
use Rattle.session_journal.specs.Turns.{AreTurnsOf, taking_turns}

-- the text of the journal of a session whose commands are given in the order of its lines
abbrev pub text_of_session : Session → List ℕ
text_of_session session = journal_text session.setup (journal_of_session session)

-- bytes are those of a session, and a text is that of its journal
pub record IsJournalOf (bytes written : List ℕ) : Type 0 where
  pub session : Session
  pub read : session_of_text bytes ≡ Ok session
  pub text : written ≡ text_of_session session

-- bytes are those of a session, and a text is that of its journal with its callers in the order of some turns
pub record IsTradedJournalOf (bytes written : List ℕ) : Type 0 where
  pub session : Session
  pub read : session_of_text bytes ≡ Ok session
  pub turns : List ℕ
  pub are : AreTurnsOf session turns
  pub text : written ≡ text_of_session (taking_turns session turns)
