use Rattle.std.proofs.Common.{subst}
use Rattle.zone_graph.specs.Route.{IsIn}
use Rattle.zone_graph.proofs.Places.{item_at_place}
use Rattle.desk_changes.proofs.leg_openings.may_open.Goals as goal

pub opens-requires : goal.opens-requires
opens-requires c = λ arc i.
    c.requires c.leg-item.result (item_at_place c.args.legs.now c.loop-leg.leg-index c.leg-item.result c.loop-leg-test.true c.leg-item.is) arc
    (subst (IsIn arc) c.as_slice.ensures i)
