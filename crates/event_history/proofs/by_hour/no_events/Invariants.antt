use Rattle.std.proofs.Common.{◌≡◌, [], replicate}
use Rattle.event_history.proofs.by_hour.no_events.Given as goal

-- so many lists without events
abbrev pub invariant-loop-hour : goal.invariant-loop-hour
invariant-loop-hour l = l.lists.items ≡ replicate l._hour []
