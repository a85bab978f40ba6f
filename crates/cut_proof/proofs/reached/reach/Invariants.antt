use Rattle.std.proofs.Common.{◌≡◌, filter}
use Rattle.std.specs.List.{range_with_len}
use Rattle.cut_proof.proofs.Reaching.{has_distance}
use Rattle.cut_proof.proofs.reached.reach.Given as goal

abbrev pub invariant-loop-other : goal.invariant-loop-other
invariant-loop-other l = l.zones.items ≡ filter (has_distance l.found) (range_with_len 0 l.other)
