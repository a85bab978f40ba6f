use Rattle.std.proofs.Common.{false, get_or}
use Rattle.zone_graph.specs.declared.route.Arc.{Arc}
use Rattle.zone_graph.proofs.Places.{at_place}
use Rattle.local_view.proofs.taker.have_room.Goals as goal

abbrev no_arc : Arc
no_arc = record { border = 0; forward = false }

pub at-requires : goal.at-requires
at-requires c = c.requires (get_or c.args.route.now c.loop-arc.arc-index no_arc) (at_place c.args.route.now c.loop-arc.arc-index no_arc c.loop-arc-test.true)
