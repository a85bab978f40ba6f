use Rattle.std.proofs.Common.{◌≡◌, length, take}
use Rattle.hour_store.specs.Changed.{AreChangedZones}
use Rattle.hour_store.proofs.changed.zones_of_changes.Given as goal

-- the bits are those of the changes so far
abbrev pub invariant-loop-change : goal.invariant-loop-change
invariant-loop-change l = record { are : AreChangedZones (take l.change-index l.changes) l.lines; many : length l.lines ≡ 14 }
