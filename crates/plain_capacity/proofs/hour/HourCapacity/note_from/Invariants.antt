use Rattle.std.proofs.Common.{take}
use Rattle.plain_capacity.specs.Hour.{IsCapacityOf}
use Rattle.plain_capacity.proofs.hour.HourCapacity.note_from.Given as goal

-- the capacity after the events of the list so far
abbrev pub invariant-loop-place : goal.invariant-loop-place
invariant-loop-place l = IsCapacityOf l.grid (take l.place l.near) l.hour l.self
