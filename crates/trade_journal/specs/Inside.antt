-- What the fields of a journal keep.
use Rattle.std.specs.Prelude.{ℕ, ◌≤◌, List}
use Rattle.market_model.specs.declared.entry.Entry.{Entry}
use Rattle.market_model.specs.declared.setup.Setup.{Setup}
use Rattle.trade_journal.specs.Journals.{IsJournal, all_rooms}

-- the journal, and room for all entries that its callers may have
pub record IsInside (setup : Setup) (entries : List Entry) (capacity : ℕ) : Type 0 where
  pub journal : IsJournal (record { setup = setup; entries = entries })
  pub room : all_rooms setup ≤ capacity
