use Rattle.std.proofs.Common.{◌≡◌, length, take}
use Rattle.plain_matching.proofs.cutting_back.cut_back.Given as goal

-- the front stays
abbrev pub invariant-loop-events : goal.invariant-loop-events
invariant-loop-events l = take l.count l.events ≡ take l.count l.initial.events

-- there are fewer events each time
abbrev pub decreases-loop-events : goal.decreases-loop-events
decreases-loop-events l = length l.events
