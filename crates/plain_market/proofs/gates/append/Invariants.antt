use Rattle.std.proofs.Common.{◌≡◌, ◌++◌, take}
use Rattle.plain_market.proofs.gates.append.Given as goal

-- the events so far are behind the others
abbrev pub invariant-loop-event : goal.invariant-loop-event
invariant-loop-event l = l.events ≡ l.initial.events ++ take l.event-index l.more
