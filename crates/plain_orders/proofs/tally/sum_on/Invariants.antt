use Rattle.std.proofs.Common.{take}
use Rattle.plain_orders.proofs.Placing.{SumsSoFar}
use Rattle.plain_orders.proofs.tally.sum_on.Given as goal

-- the sums are those of the events so far
abbrev pub invariant-loop-place : goal.invariant-loop-place
invariant-loop-place l = SumsSoFar (take l.place l.list) l.hour l.tallies.items l.moment
