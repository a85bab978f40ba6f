use Rattle.std.proofs.Common.{◌≡◌, length, min}
use Rattle.event_history.specs.ByHour.{Gain, is_from}
use Rattle.event_history.proofs.by_hour.note.Given as goal

-- the lists so far have the event
abbrev pub invariant-loop-hour : goal.invariant-loop-hour
invariant-loop-hour l = record {
  size : length l.lists ≡ length l.fn.lists;
  so_far : Gain (is_from l.fn.hours.first (min l.fn.hours.end l.hour)) l.fn.event l.fn.lists l.lists;
}
