-- What an audit keeps of the lines that were right.
use Rattle.std.specs.Prelude.{◌≡◌, ℕ, ◌+◌, ◌*◌, ◌≤◌, ◌==◌, All, List, Option, Some, count_by, length, map, slice_index}
use Rattle.std.specs.Option.{option_map}
use Rattle.journal_print.specs.Line.{entry_line}
use Rattle.market_model.specs.declared.entry.Entry.{Entry}
use Rattle.market_model.specs.History.{entered_count, journal_events}
use Rattle.market_model.specs.Market.{entry_of, in_turn, run_of, turn_at}
use Rattle.market_model.specs.Naming.{IsEntryIn}
use Rattle.market_model.specs.Sweep.{all_parts}
use Rattle.market_text.specs.declared.session.Session.{Session}
use Rattle.market_text.specs.Commands.{commands_of}
use Rattle.plain_orders.specs.DaySums.{AreDaySums}
use Rattle.journal_audit.specs.declared.course.Course.{Course}
use Rattle.journal_audit.specs.Lines.{caller_named}

-- the callers of entries, in order
abbrev pub callers_of : List Entry → List ℕ
callers_of entries = map (λ entry. entry.caller) entries

-- how many entries a caller has
abbrev pub entries_of : List Entry → (caller : ℕ) → ℕ
entries_of entries caller = count_by (λ entry. entry.caller == caller) entries

-- the entries are those of their callers, each with its next command; the events are theirs, at most 8 of an entry that
-- enter an order or a block; each caller's count is how many entries it has, no more than it has commands; and what is
-- kept of the sums of each hour is of the events
pub record IsCourse (session : Session) (course : Course) : Type 0 where
  pub journal : course.entries ≡ run_of session.setup (in_turn session.commands (callers_of course.entries))
  pub happened : course.history ≡ journal_events course.entries
  pub matched : length course.given ≡ length session.commands
  pub counted : (caller : ℕ) → slice_index course.given caller ≡ entries_of course.entries caller
  pub given : (caller : ℕ) → entries_of course.entries caller ≤ length (commands_of session.commands caller)
  pub few : entered_count course.history ≤ 8 * length course.entries
  pub named : All (IsEntryIn session.setup) course.entries
  pub summed : AreDaySums course.history course.sums

-- the entry of a caller's next command after entries
abbrev pub next_entry : Session → List Entry → (caller : ℕ) → Option Entry
next_entry session entries caller =
    option_map (λ turn. entry_of all_parts session.setup entries turn) (turn_at session.commands caller (entries_of entries caller))

-- a line is that of the next command of the caller that it names, after entries; and this is its entry
pub record IsNextLine (session : Session) (entries : List Entry) (line : List ℕ) (entry : Entry) : Type 0 where
  pub named : caller_named session.setup line ≡ Some entry.caller
  pub next : next_entry session entries entry.caller ≡ Some entry
  pub text : line ≡ entry_line session.setup (length entries + 1) entry
