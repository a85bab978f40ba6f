-- The summary of a session's journal.
use Rattle.std.specs.Prelude.{◌≡◌, ℕ, List, Ok}
use Rattle.market_text.specs.declared.session.Session.{Session}
use Rattle.market_text.specs.Text.{session_of_text}
use Rattle.load_maker.specs.Session.{session_text}
use Rattle.load_maker.specs.Summary.{summary_text}
use Rattle.session_journal.specs.Journal.{journal_of_session}

-- a text is the summary of the journal of the session that is generated for so many commands
pub record IsSummaryOf (commands : ℕ) (written : List ℕ) : Type 0 where
  pub session : Session
  pub read : session_of_text (session_text commands) ≡ Ok session
  pub text : written ≡ summary_text (journal_of_session session)
