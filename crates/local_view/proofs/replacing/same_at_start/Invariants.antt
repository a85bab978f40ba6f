use Rattle.std.proofs.Common.{◌≡◌, take}
use Rattle.local_view.proofs.replacing.same_at_start.Given as goal

-- both lines are alike so far
abbrev pub invariant-loop-place : goal.invariant-loop-place
invariant-loop-place l = take l.place l.old ≡ take l.place l.new
