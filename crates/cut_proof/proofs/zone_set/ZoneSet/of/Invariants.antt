use Rattle.std.proofs.Common.{take}
use Rattle.cut_proof.specs.ZoneSet.{HoldsZones}
use Rattle.cut_proof.proofs.zone_set.ZoneSet.of.Given as goal

abbrev pub invariant-loop-zone : goal.invariant-loop-zone
invariant-loop-zone l = HoldsZones l.bits (take l.zone-index l.zones)
