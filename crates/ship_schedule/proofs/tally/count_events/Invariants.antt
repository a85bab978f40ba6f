use Rattle.std.proofs.Common.{List, ◌++◌, length, take}
use Rattle.market_model.specs.declared.event.Event.{Event}
use Rattle.ship_schedule.specs.Tally.{AreWithin, Counts, SameSize}
use Rattle.ship_schedule.proofs.tally.count_events.Given as goal

-- the events so far are counted
abbrev pub invariant-loop-event : goal.invariant-loop-event
invariant-loop-event l = record {
  counts : (before : List Event) → Counts before l.fn.tally → AreWithin (length l.fn.tally.parties) (take l.event-index l.events)
      → Counts (before ++ take l.event-index l.events) l.tally;
  size : SameSize l.fn.tally l.tally;
}
