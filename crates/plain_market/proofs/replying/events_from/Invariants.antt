use Rattle.std.proofs.Common.{◌≡◌, take}
use Rattle.plain_market.proofs.replying.events_from.Given as goal

-- the events so far are copied
abbrev pub invariant-loop-event : goal.invariant-loop-event
invariant-loop-event l = l.made ≡ take l.event-index l.event-items
