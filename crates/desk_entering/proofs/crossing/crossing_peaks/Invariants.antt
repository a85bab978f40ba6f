use Rattle.std.proofs.Common.{◌≡◌}
use Rattle.desk_entering.specs.Crossing.{crossing_peaks}
use Rattle.desk_entering.proofs.crossing.crossing_peaks.Given as goal

-- what crosses of the peaks so far
abbrev pub invariant-loop-number : goal.invariant-loop-number
invariant-loop-number l = l.lots ≡ crossing_peaks l.taker l.order l.ice l.number
