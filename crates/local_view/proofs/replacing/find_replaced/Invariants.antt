use Rattle.std.proofs.Common.{◌-◌}
use Rattle.local_view.specs.Moved.{IsReplaced}
use Rattle.local_view.proofs.replacing.find_replaced.Given as goal

-- both lines end alike from here on
abbrev pub invariant-loop-last : goal.invariant-loop-last
invariant-loop-last l = IsReplaced l.old l.new l.first l.last l.next

abbrev pub decreases-loop-last : goal.decreases-loop-last
decreases-loop-last l = l.last - l.first
