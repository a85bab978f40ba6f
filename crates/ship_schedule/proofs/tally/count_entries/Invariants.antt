use Rattle.std.proofs.Common.{[], length, take}
use Rattle.market_model.specs.History.{journal_events}
use Rattle.ship_schedule.specs.Tally.{AreWithin, Counts, SameSize}
use Rattle.ship_schedule.proofs.tally.count_entries.Given as goal

-- the entries so far are counted
abbrev pub invariant-loop-entry : goal.invariant-loop-entry
invariant-loop-entry l = record {
  counts : Counts [] l.fn.tally → AreWithin (length l.fn.tally.parties) (journal_events (take l.entry-index l.entries))
      → Counts (journal_events (take l.entry-index l.entries)) l.tally;
  size : SameSize l.fn.tally l.tally;
}
