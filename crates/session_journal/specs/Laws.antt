-- What the journal of a session holds.
use Rattle.std.specs.Prelude.{◌≡◌, ℕ, ◌==◌, All, List, map, filter}
use Rattle.market_model.specs.declared.command.Command.{Command}
use Rattle.market_model.specs.declared.entry.Entry.{Entry}
use Rattle.market_model.specs.Naming.{IsEntryIn}
use Rattle.market_model.specs.WellFormed.{IsMarketSetup}
use Rattle.market_text.specs.declared.session.Session.{Session}
use Rattle.market_text.specs.Commands.{commands_of}
use Rattle.market_text.specs.Session.{IsSession}
use Rattle.session_journal.specs.Journal.{journal_of_session}

-- the commands of a caller in a journal, in its order
abbrev pub commands_in : (caller : ℕ) → List Entry → List Command
commands_in caller journal = map (λ entry. entry.command) (filter (λ entry. entry.caller == caller) journal)

-- the journal of a session has an entry for each turn, in the order of the turns, and of each caller
-- exactly its commands, each once and in its order
abbrev pub EachCommandOnce : Type 0
EachCommandOnce = (session : Session) → IsSession session
    → (map (λ entry. entry.caller) (journal_of_session session) ≡ session.turns)
    × ((caller : ℕ) → commands_in caller (journal_of_session session) ≡ commands_of session.commands caller)

-- each of its entries is of a caller of the setup, and names zones and borders of the setup alone
abbrev pub EntriesNameTheSetup : Type 0
EntriesNameTheSetup = (session : Session) → IsSession session → IsMarketSetup session.setup → All (IsEntryIn session.setup) (journal_of_session session)
