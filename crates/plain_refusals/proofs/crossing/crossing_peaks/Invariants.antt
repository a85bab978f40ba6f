use Rattle.std.proofs.Common.{◌≡◌, ◌*◌, ◌≤◌}
use Rattle.plain_refusals.specs.Crossing.{crossing_peaks}
use Rattle.plain_refusals.proofs.crossing.crossing_peaks.Given as goal

-- what crosses of the peaks so far
abbrev pub invariant-loop-number : goal.invariant-loop-number
invariant-loop-number l = record {
  lots : l.lots ≡ crossing_peaks l.taker l.order l.peak.0 l.delta l.filled l.left l.number;
  most : l.lots ≤ 9990 * l.number;
}
