use Rattle.std.proofs.Common.{◌≡◌, ◌*◌, ◌≤◌, sum_by, take}
use Rattle.plain_refusals.specs.Crossing.{lots_inside}
use Rattle.plain_refusals.proofs.crossing.crossing_lots_inside.Given as goal

-- what crosses of the orders so far
abbrev pub invariant-loop-other : goal.invariant-loop-other
invariant-loop-other l = record {
  lots : l.lots ≡ sum_by (lots_inside l.taker l.zones) (take l.other-index l.line);
  most : l.lots ≤ 999000 * l.other-index;
}
