use Rattle.std.proofs.Common.{◌≡◌, length, take}
use Rattle.hour_store.specs.Changed.{AreChangedBorders}
use Rattle.hour_store.proofs.changed.borders_of_changes.Given as goal

-- the borders are those of the changes so far
abbrev pub invariant-loop-change : goal.invariant-loop-change
invariant-loop-change l = record { are : AreChangedBorders (take l.change-index l.changes) l.changed; many : length l.changed ≡ 128 }
