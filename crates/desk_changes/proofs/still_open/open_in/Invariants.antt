use Rattle.std.proofs.Common.{◌≡◌, take}
use Rattle.desk_changes.specs.StillOpen.{open_in}
use Rattle.desk_changes.proofs.still_open.open_in.Given as goal

-- what is open of what the events so far enter
abbrev pub invariant-loop-event : goal.invariant-loop-event
invariant-loop-event l = l.found.items ≡ open_in l.event-items (take l.event-index l.event-items)
