use Rattle.std.proofs.Common.{◌≡◌, length, min}
use Rattle.event_history.specs.ByHour.{Lose, is_from}
use Rattle.event_history.proofs.by_hour.forget.Given as goal

-- the lists so far are without their last event
abbrev pub invariant-loop-hour : goal.invariant-loop-hour
invariant-loop-hour l = record {
  size : length l.lists ≡ length l.fn.lists;
  so_far : Lose (is_from l.fn.hours.first (min l.fn.hours.end l.hour)) l.fn.lists l.lists;
}
