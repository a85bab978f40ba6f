use Rattle.std.proofs.Common.{◌<◌}
use Rattle.local_view.proofs.ways.zone_of_most.Given as goal

-- one of the zones
abbrev pub invariant-loop-zone : goal.invariant-loop-zone
invariant-loop-zone l = l.most < l.zones
