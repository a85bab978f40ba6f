use Rattle.std.proofs.Common.{◌≡◌, take}
use Rattle.hour_desk.proofs.copying.events_from.Given as goal

-- the events so far are copied
abbrev pub invariant-loop-event : goal.invariant-loop-event
invariant-loop-event l = l.made ≡ take l.event-index l.event-items
