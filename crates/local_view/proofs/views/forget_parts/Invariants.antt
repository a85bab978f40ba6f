use Rattle.std.proofs.Common.{◌≡◌, ◌++◌, drop, map, take}
use Rattle.local_view.specs.Kept.{part_forgotten}
use Rattle.local_view.proofs.views.forget_parts.Given as goal

-- the next rows of the parts so far are dropped
abbrev pub invariant-loop-part : goal.invariant-loop-part
invariant-loop-part l = l.parts ≡ map part_forgotten (take l.part-index l.fn.parts) ++ drop l.part-index l.fn.parts
