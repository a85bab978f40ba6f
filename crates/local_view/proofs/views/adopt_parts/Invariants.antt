use Rattle.std.proofs.Common.{◌≡◌, ◌++◌, ℕ, drop, map, take}
use Rattle.local_view.specs.Kept.{AreSized, part_adopted}
use Rattle.local_view.proofs.views.adopt_parts.Given as goal

-- the parts so far have their next rows kept
abbrev pub invariant-loop-part : goal.invariant-loop-part
invariant-loop-part l = record {
  are : l.parts ≡ map part_adopted (take l.part-index l.fn.parts) ++ drop l.part-index l.fn.parts;
  sized : (zones : ℕ) → AreSized zones l.fn.parts → AreSized zones l.parts;
}
