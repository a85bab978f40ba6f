use Rattle.std.proofs.Common.{get_or, false}
use Rattle.zone_graph.specs.declared.route.Arc.{Arc}
use Rattle.zone_graph.proofs.Places.{at_place}
use Rattle.cut_proof.proofs.over_routes.carried.Goals as goal

pub at-requires : goal.at-requires
at-requires c =
    let nowhere : Arc = record { border = 0; forward = false } in
    c.requires.arcs (get_or c.args.route.now c.loop-arc.arc-index nowhere)
    (at_place c.args.route.now c.loop-arc.arc-index nowhere c.loop-arc-test.true)
