use Rattle.std.proofs.Common.{◌≡◌, take}
use Rattle.event_history.proofs.history.History.of.Given as goal

-- the events so far
abbrev pub invariant-loop-event : goal.invariant-loop-event
invariant-loop-event l = l.history ≡ take l.event-index l.events
