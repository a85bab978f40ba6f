-- Journals that are legal by their type: what each keeps, and when an entry may go behind the others.
use Rattle.std.specs.Prelude.{◌≡◌, ℕ, ◌+◌, ◌<◌, ◌≤◌, ◌==◌, List, [], ◌∷◌, ◌++◌, count_by, length, sum_by, unwrap_or}
use Rattle.std.specs.List.{slice_get}
use Rattle.std.specs.Option.{option_map}
use Rattle.zone_graph.specs.Route.{IsIn}
use Rattle.market_model.specs.declared.entry.Entry.{Entry}
use Rattle.market_model.specs.declared.setup.Caller.{Caller}
use Rattle.market_model.specs.declared.setup.Setup.{Setup}
use Rattle.market_model.specs.History.{journal_events}
use Rattle.market_model.specs.Market.{IsLegal, reply_to}

-- a journal: what is fixed, and the entries in their order
pub record JournalState : Type 0 where
  pub setup : Setup
  pub entries : List Entry

-- how many entries of a caller there are
abbrev pub made_by : List Entry → (caller : ℕ) → ℕ
made_by entries caller = count_by (λ entry. entry.caller == caller) entries

-- how many entries a caller may have; one that is not in the setup may have none
abbrev pub room_of_caller : Setup → (caller : ℕ) → ℕ
room_of_caller setup caller = unwrap_or (option_map (λ own. own.room) (slice_get setup.callers caller)) 0

-- how many entries all callers may have together
abbrev pub all_rooms : Setup → ℕ
all_rooms setup = sum_by (λ own. own.room) setup.callers

-- what every journal keeps: each reply is the market's at its place, each entry is of a caller of the
-- setup, and no caller has more entries than its room
pub record IsJournal (journal : JournalState) : Type 0 where
  pub legal : IsLegal journal.setup journal.entries
  pub callers : (entry : Entry) → IsIn entry journal.entries → entry.caller < length journal.setup.callers
  pub within : (caller : ℕ) → made_by journal.entries caller ≤ room_of_caller journal.setup caller

-- an entry may go behind the others: its caller has room for it, it has the caller's next number, and
-- its reply is the market's there
pub record MayFollow (journal : JournalState) (entry : Entry) : Type 0 where
  pub has_room : made_by journal.entries entry.caller < room_of_caller journal.setup entry.caller
  pub next : entry.nth ≡ made_by journal.entries entry.caller + 1
  pub reply : entry.reply ≡ reply_to journal.setup (journal_events journal.entries) entry.caller entry.command

-- the journal with one more entry
abbrev pub with_entry : JournalState → Entry → JournalState
with_entry journal entry = record { setup = journal.setup; entries = journal.entries ++ entry ∷ [] }
