use Rattle.std.proofs.Common.{◌≡◌, [], sym, subst, arith, append-nil}
use Rattle.zone_graph.specs.Rooms.{room_of}
use Rattle.cut_proof.specs.Distance.{IsDescent, distance_at}
use Rattle.cut_proof.proofs.Nearest.{descent_is_best, no_route}
use Rattle.plain_matching.proofs.routes.best_route.Goals as goal

pub returns-in_default : goal.returns-in_default
returns-in_default c =
    sym (no_route c.args.grid.now (room_of c.args.rooms.now) c.args.from c.args.to c.distances-distances.result
    c.zones-zones.ensures.grid.is_graph c.distances-distances.ensures c.in_default.is)

pub returns : goal.returns
returns c =
    let home : distance_at c.distances-distances.result c.loop-distance.zone ≡ 0 = omega (arith, c.loop-distance.invariant.far) in
    let descent = subst (λ arcs. IsDescent c.args.grid.now (room_of c.args.rooms.now) c.distances-distances.result c.args.from arcs) (append-nil c.loop-distance.route)
    (c.loop-distance.invariant.onward [] home) in
    sym (descent_is_best c.args.grid.now (room_of c.args.rooms.now) c.args.from c.args.to c.distances-distances.result c.loop-distance.route
    c.zones-zones.ensures.grid.is_graph c.distances-distances.ensures descent)
