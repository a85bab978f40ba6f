use Rattle.std.proofs.Common.{◌≡◌, drop}
use Rattle.zone_graph.specs.Rooms.{room_of}
use Rattle.zone_graph.specs.Route.{carried}
use Rattle.cut_proof.proofs.over_routes.carried.Given as goal

-- the arcs that are left bound the least so far as all arcs bound the lots
abbrev pub invariant-loop-arc : goal.invariant-loop-arc
invariant-loop-arc l = carried (room_of l.rooms) l.least (drop l.arc-index l.route) ≡ carried (room_of l.rooms) l.lots l.route
