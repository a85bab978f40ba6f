use Rattle.std.proofs.Common.{◌≡◌, true, false, get_or, arith}
use Rattle.std.specs.List.{list_all}
use Rattle.std.proofs.lemmas.Grind.{common_steps}
use Rattle.zone_graph.specs.declared.route.Arc.{Arc}
use Rattle.zone_graph.specs.Rooms.{room_of}
use Rattle.zone_graph.proofs.Places.{at_place}
use Rattle.route_choice.specs.Freshness.{has_room}
use Rattle.route_choice.proofs.Fresh.{stays_fresh}
use Rattle.route_choice.proofs.tree.RouteTree.is_fresh_after.Goals as goal

abbrev no_arc : Arc
no_arc = record { border = 0; forward = false }

pub at-requires : goal.at-requires
at-requires c = c.requires (get_or c.args.route.now c.loop-arc.arc-index no_arc) (at_place c.args.route.now c.loop-arc.arc-index no_arc c.loop-arc-test.true)

pub returns-clause-fresh : goal.returns-clause-fresh
returns-clause-fresh c =
    let all : list_all (has_room (room_of c.args.rooms.now)) c.args.route.now ≡ true = grind (arith, common_steps) in
    λ yes. stays_fresh c.args.self.now (room_of c.args.rooms.now) c.args.route.now all
