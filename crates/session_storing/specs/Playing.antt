-- A session that is being played: its callers give their commands, each in its order.
use Rattle.std.specs.Prelude.{◌≡◌, ℕ, ◌<◌, ◌≤◌, ◌==◌, All, List, [], ◌∷◌, ◌++◌, count_by, drop, length, slice_set, Some}
use Rattle.market_model.specs.declared.command.Command.{Command}
use Rattle.market_model.specs.declared.entry.Entry.{Entry}
use Rattle.market_model.specs.declared.setup.Setup.{Setup}
use Rattle.market_model.specs.Market.{entry_of, in_turn, run_of}
use Rattle.market_model.specs.Naming.{IsEntryIn}
use Rattle.market_model.specs.Sweep.{all_parts}
use Rattle.market_model.specs.WellFormed.{IsMarketSetup}
use Rattle.market_text.specs.Commands.{commands_of}
use Rattle.market_text.specs.Session.{IsSession}
use Rattle.market_text.specs.declared.session.Session.{Session}
use Rattle.journal_audit.specs.Course.{callers_of, entries_of, next_entry}
use Rattle.stored_journal.specs.Lines.{stored_lines}

-- what a player keeps: what is fixed, the commands that each caller has still to give, and the entries so far
pub record PlayState : Type 0 where
  pub setup : Setup
  pub waiting : List (List Command)
  pub entries : List Entry

-- a player after the next command of a caller: that command is no longer waiting, and its entry is behind the others
pub record IsAfterNext (old : PlayState) (caller : ℕ) (new : PlayState) : Type 0 where
  pub command : Command
  pub next : commands_of old.waiting caller ≡ command ∷ commands_of new.waiting caller
  pub others : new.waiting ≡ slice_set old.waiting caller (commands_of new.waiting caller)
  pub setup : new.setup ≡ old.setup
  pub entries : new.entries ≡ old.entries ++ entry_of all_parts old.setup old.entries (record { caller = caller; command = command }) ∷ []

-- the journal of a session whose callers give their commands in this order, each its next one
abbrev pub journal_in_order : Session → (callers : List ℕ) → List Entry
journal_in_order session callers = run_of session.setup (in_turn session.commands callers)

-- a player plays a session: its entries are the journal of some callers, and what they did not give is waiting
pub record IsPlaying (session : Session) (state : PlayState) : Type 0 where
  pub is_session : IsSession session
  pub is_setup : IsMarketSetup session.setup
  pub setup : state.setup ≡ session.setup
  pub journal : state.entries ≡ journal_in_order session (callers_of state.entries)
  pub given : (caller : ℕ) → entries_of state.entries caller ≤ length (commands_of session.commands caller)
  pub matched : length state.waiting ≡ length session.commands
  pub waiting : (caller : ℕ) → commands_of state.waiting caller ≡ drop (entries_of state.entries caller) (commands_of session.commands caller)
  pub named : All (IsEntryIn session.setup) state.entries

-- the entry of a caller's next command, and the player after it
pub record IsPlayedOn (session : Session) (old : PlayState) (caller : ℕ) (new : PlayState) : Type 0 where
  pub entry : Entry
  pub whose : entry.caller ≡ caller
  pub next : next_entry session old.entries caller ≡ Some entry
  pub grew : new.entries ≡ old.entries ++ entry ∷ []
  pub playing : IsPlaying session new

-- a player plays some session
abbrev pub PlaysSession : PlayState → Type 0
PlaysSession state = (session : Session) × IsPlaying session state

-- how many of some turns a caller has
abbrev pub turns_of : List ℕ → (caller : ℕ) → ℕ
turns_of turns caller = count_by (λ turn. turn == caller) turns

-- each of these turns is of a caller of the setup, and each caller has commands enough for its turns
pub record HasCommandsFor (state : PlayState) (turns : List ℕ) : Type 0 where
  pub known : All (λ turn. turn < length state.setup.callers) turns
  pub enough : (caller : ℕ) → turns_of turns caller ≤ length (commands_of state.waiting caller)

-- what is stored of the entries so far
abbrev pub lines_played : PlayState → List (List ℕ)
lines_played state = stored_lines state.setup state.entries

-- what is stored of the journal of a session whose callers give their commands in this order
abbrev pub lines_in_order : Session → (callers : List ℕ) → List (List ℕ)
lines_in_order session callers = stored_lines session.setup (journal_in_order session callers)
