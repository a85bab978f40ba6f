use Rattle.std.proofs.Common.{sym, subst}
use Rattle.zone_graph.specs.Rooms.{room_of}
use Rattle.cut_proof.specs.Distance.{AreDistances, directed_room}
use Rattle.route_choice.specs.Freshness.{IsFresh}
use Rattle.route_choice.specs.Tree.{tree_of}
use Rattle.route_choice.proofs.Towards.{towards_fresh}
use Rattle.route_choice.proofs.search.Branches.search.Goals as goal

pub returns-then-towards-clause-fresh : goal.returns-then-towards-clause-fresh
returns-then-towards-clause-fresh c =
    subst (λ towards. IsFresh c.args.grid.now (room_of c.args.rooms.now) (tree_of c.take_least_steps.new.self c.args.zone towards)) (sym c.if-towards.true)
    (towards_fresh c.args.grid.now (room_of c.args.rooms.now) c.args.zone c.take_least_steps.new.self.distances c.take_least_steps.new.self.steps
    c.take_least_steps.ensures.grid.is_graph c.requires.zone
    (subst (AreDistances c.args.grid.now (room_of c.args.rooms.now) c.args.zone) (sym c.take_least_steps.ensures.distances)
    (subst (λ towards. AreDistances c.args.grid.now (directed_room (room_of c.args.rooms.now) towards) c.args.zone c.find_zones.new.self.distances) c.if-towards.true
    c.find_zones.ensures.distances))
    c.take_least_steps.ensures.taken)
