use Rattle.std.proofs.Common.{◌≡◌, ◌++◌, ◌<◌, List}
use Rattle.zone_graph.specs.declared.route.Arc.{Arc}
use Rattle.zone_graph.specs.Rooms.{room_of}
use Rattle.cut_proof.specs.Distance.{IsDescent, distance_at}
use Rattle.plain_matching.proofs.routes.best_route.Given as goal

-- whatever way leads down from the zone, the route and it lead down from the first one
abbrev pub invariant-loop-distance : goal.invariant-loop-distance
invariant-loop-distance l = record {
  far : distance_at l.distances l.zone ≡ l.distance;
  short : l.distance < 64;
  onward : (rest : List Arc) → IsDescent l.grid (room_of l.rooms) l.distances l.zone rest → IsDescent l.grid (room_of l.rooms) l.distances l.from (l.route ++ rest);
}

abbrev pub decreases-loop-distance : goal.decreases-loop-distance
decreases-loop-distance l = l.distance
