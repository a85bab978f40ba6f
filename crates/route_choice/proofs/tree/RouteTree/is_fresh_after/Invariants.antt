use Rattle.std.proofs.Common.{◌≡◌, drop}
use Rattle.std.specs.List.{list_all}
use Rattle.zone_graph.specs.Rooms.{room_of}
use Rattle.route_choice.specs.Freshness.{has_room}
use Rattle.route_choice.proofs.tree.RouteTree.is_fresh_after.Given as goal

-- the arcs so far have room
abbrev pub invariant-loop-arc : goal.invariant-loop-arc
invariant-loop-arc l = list_all (has_room (room_of l.rooms)) l.route ≡ list_all (has_room (room_of l.rooms)) (drop l.arc-index l.route)
