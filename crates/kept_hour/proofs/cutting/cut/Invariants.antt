use Rattle.std.proofs.Common.{◌≡◌, take, length}
use Rattle.kept_hour.proofs.cutting.cut.Given as goal

-- the first part is as at the start
abbrev pub invariant-loop-events : goal.invariant-loop-events
invariant-loop-events l = take l.len l.events ≡ take l.len l.initial.events

abbrev pub decreases-loop-events : goal.decreases-loop-events
decreases-loop-events l = length l.events
