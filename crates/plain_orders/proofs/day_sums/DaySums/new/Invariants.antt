use Rattle.std.proofs.Common.{◌≡◌, None, replicate}
use Rattle.plain_orders.proofs.day_sums.DaySums.new.Given as goal

-- so many places where none are kept
abbrev pub invariant-loop-hour : goal.invariant-loop-hour
invariant-loop-hour l = l.hours.items ≡ replicate l._hour None
