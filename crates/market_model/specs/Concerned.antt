-- Whom the entries of a journal concern, and what of a journal is theirs.
use Rattle.std.specs.Prelude.{◌≡◌, ℕ, Bool, false, ◌==◌, List, [], ◌++◌, filter}
use Rattle.zone_graph.specs.Route.{IsIn, has}
use Rattle.market_model.specs.declared.entry.Entry.{Entry}
use Rattle.market_model.specs.declared.event.Event.{Event}
use Rattle.market_model.specs.declared.setup.Setup.{Setup}
use Rattle.market_model.specs.declared.who.Who.{Who}
use Rattle.market_model.specs.declared.who.Who.TheVariants as who
use Rattle.market_model.specs.History.{events_of, journal_events, of_hour}
use Rattle.market_model.specs.Market.{Turn, run_of}
use Rattle.market_model.specs.Rules.{touched_hours}
use Rattle.market_model.specs.WellFormed.{IsMarketSetup}

-- an entry concerns its caller, and the hours that its command touches
abbrev pub concerns : Setup → Who → Entry → Bool
concerns setup (who.Hour hour) entry = has hour (touched_hours setup entry.caller entry.command)
concerns setup (who.Caller caller) entry = entry.caller == caller

-- the entries of a list that concern someone
abbrev pub entries_for : Setup → Who → List Entry → List Entry
entries_for setup someone entries = filter (concerns setup someone) entries

-- the entries of a caller
abbrev pub entries_by : (caller : ℕ) → List Entry → List Entry
entries_by caller entries = filter (λ entry. entry.caller == caller) entries

-- the events that a list of entries leaves for an hour
abbrev pub left_for : (hour : ℕ) → List Entry → List Event
left_for hour entries = of_hour hour (journal_events entries)

-- a list is current for someone: a journal goes on after it, and with no entry that concerns them
pub record IsCurrent (setup : Setup) (someone : Who) (entries journal : List Entry) : Type 0 where
  pub later : List Entry
  pub whole : journal ≡ entries ++ later
  pub quiet : entries_for setup someone later ≡ []

-- an entry has no event of an hour that its command does not touch
abbrev pub KeepsToItsHours : Setup → Entry → Type 0
KeepsToItsHours setup entry = (hour : ℕ) → concerns setup (who.Hour hour) entry ≡ false → of_hour hour (events_of entry.reply) ≡ []

-- a list that is current for a caller has all of the caller's entries in the journal
abbrev pub CurrentForCallers : Type 0
CurrentForCallers = (setup : Setup) (caller : ℕ) (entries journal : List Entry) → IsCurrent setup (who.Caller caller) entries journal
    → entries_by caller entries ≡ entries_by caller journal

-- a list that is current for an hour leaves the hour's events of the journal, where the journal's
-- entries keep to their hours
abbrev pub CurrentForHours : Type 0
CurrentForHours = (setup : Setup) (hour : ℕ) (entries journal : List Entry) → IsCurrent setup (who.Hour hour) entries journal
    → ((entry : Entry) → IsIn entry journal → KeepsToItsHours setup entry) → left_for hour entries ≡ left_for hour journal

-- the entries of every journal keep to their hours
abbrev pub JournalsKeepToTheirHours : Type 0
JournalsKeepToTheirHours = (setup : Setup) (turns : List Turn) (entry : Entry) → IsMarketSetup setup → IsIn entry (run_of setup turns) → KeepsToItsHours setup entry
