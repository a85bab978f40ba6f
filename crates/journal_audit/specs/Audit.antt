-- Which lines of a journal are right, when it is complete, and where its first fault is.
use Rattle.std.specs.Prelude.{◌≡◌, ℕ, ◌+◌, ◌<◌, ◌≤◌, ◌==◌, ◌⊎◌, All, IsSome, List, count_by, length, take}
use Rattle.std.specs.List.{concat}
use Rattle.market_model.specs.declared.entry.Entry.{Entry}
use Rattle.market_model.specs.Market.{in_turn, run_of}
use Rattle.market_text.specs.declared.session.Session.{Session}
use Rattle.market_text.specs.Commands.{commands_of}
use Rattle.session_io.specs.JournalText.{journal_text}
use Rattle.journal_audit.specs.Lines.{caller_named, callers_named, journal_lines}

-- the entries of the callers that lines name, in order, each with its next command
abbrev pub entries_named : Session → (lines : List (List ℕ)) → List Entry
entries_named session lines = run_of session.setup (in_turn session.commands (callers_named session.setup lines))

-- how often lines name a caller
abbrev pub times_named : Session → (lines : List (List ℕ)) → (caller : ℕ) → ℕ
times_named session lines caller = count_by (λ named. named == caller) (callers_named session.setup lines)

-- lines are right: each names a caller, none is named more often than it has commands, and they are the text of the journal
-- of these callers, each with its next command
pub record AreRight (session : Session) (lines : List (List ℕ)) : Type 0 where
  pub named : All (λ line. IsSome (caller_named session.setup line)) lines
  pub given : (caller : ℕ) → times_named session lines caller ≤ length (commands_of session.commands caller)
  pub text : concat lines ≡ journal_text session.setup (entries_named session lines)

-- the line at a place among some, counted from 1, is right: the lines up to it are
abbrev pub IsRightAt : Session → (lines : List (List ℕ)) → (place : ℕ) → Type 0
IsRightAt session lines place = AreRight session (take place lines)

-- so is every line
abbrev pub AreRightThroughout : Session → (lines : List (List ℕ)) → Type 0
AreRightThroughout session lines = (place : ℕ) → place ≤ length lines → IsRightAt session lines place

-- so is every line of a journal
abbrev pub IsRightThroughout : Session → (journal : List ℕ) → Type 0
IsRightThroughout session journal = AreRightThroughout session (journal_lines journal)

-- a journal is complete: every line is right, and no caller has a command left
pub record IsComplete (session : Session) (journal : List ℕ) : Type 0 where
  pub right : IsRightThroughout session journal
  pub done : (caller : ℕ) → times_named session (journal_lines journal) caller ≡ length (commands_of session.commands caller)

-- the first of some lines that is not right
pub record IsFirstWrongAmong (session : Session) (lines : List (List ℕ)) (place : ℕ) : Type 0 where
  pub some : 1 ≤ place
  pub within : place ≤ length lines
  pub before : (earlier : ℕ) → earlier < place → IsRightAt session lines earlier
  pub wrong : ¬ IsRightAt session lines place

-- the first line of a journal that is not
abbrev pub IsFirstWrong : Session → (journal : List ℕ) → (place : ℕ) → Type 0
IsFirstWrong session journal place = IsFirstWrongAmong session (journal_lines journal) place

-- every line is right, but a caller has a command left: the line that is wanting comes behind the last
pub record IsFirstWanting (session : Session) (journal : List ℕ) (place : ℕ) : Type 0 where
  pub right : IsRightThroughout session journal
  pub left : (caller : ℕ) × (times_named session (journal_lines journal) caller < length (commands_of session.commands caller))
  pub behind : place ≡ length (journal_lines journal) + 1

-- the first fault of a journal, by its place among the lines
abbrev pub IsFirstFault : Session → (journal : List ℕ) → (place : ℕ) → Type 0
IsFirstFault session journal place = IsFirstWrong session journal place ⊎ IsFirstWanting session journal place

-- a journal is complete, and these are its entries
pub record IsJournalWith (session : Session) (journal : List ℕ) (entries : List Entry) : Type 0 where
  pub complete : IsComplete session journal
  pub are : entries ≡ entries_named session (journal_lines journal)

-- a journal is not complete, and this is the place of its first fault
pub record IsNoJournal (session : Session) (journal : List ℕ) (place : ℕ) : Type 0 where
  pub incomplete : ¬ IsComplete session journal
  pub fault : IsFirstFault session journal place
