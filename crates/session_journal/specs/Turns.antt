-- The turns of a session's callers in another order than that of its lines, and the journal of a session that was traded.
use Rattle.std.specs.Prelude.{◌≡◌, ℕ, ◌<◌, ◌==◌, All, List, count_by, length}
use Rattle.market_model.specs.declared.entry.Entry.{Entry}
use Rattle.market_text.specs.declared.session.Session.{Session}
use Rattle.market_text.specs.Commands.{commands_of}
use Rattle.session_journal.specs.Journal.{journal_of_session}

-- turns name each caller of a session as often as it has commands, and no one else
pub record AreTurnsOf (session : Session) (turns : List ℕ) : Type 0 where
  pub known : All (λ turn. turn < length session.setup.callers) turns
  pub counted : (caller : ℕ) → caller < length session.commands
      → length (commands_of session.commands caller) ≡ count_by (λ turn. turn == caller) turns

-- the session whose callers take these turns in place of the order of its lines
abbrev pub taking_turns : Session → (turns : List ℕ) → Session
taking_turns session turns = record { setup = session.setup; commands = session.commands; turns = turns }

-- entries are the journal of a session whose callers took some turns
pub record IsTraded (session : Session) (entries : List Entry) : Type 0 where
  pub turns : List ℕ
  pub are : AreTurnsOf session turns
  pub journal : entries ≡ journal_of_session (taking_turns session turns)
