use Rattle.cut_proof.proofs.ZoneSets.{holds_more}
use Rattle.cut_proof.proofs.zone_set.ZoneSet.of.Goals as goal

pub loop-zone-preserved : goal.loop-zone-preserved
loop-zone-preserved c =
    holds_more c.loop-zone.bits c.loop-zone.zone-index c.args.zones.now c.loop-zone-test.true
    (c.requires c.loop-zone.zone-index 0 c.loop-zone-test.true) c.loop-zone.invariant
