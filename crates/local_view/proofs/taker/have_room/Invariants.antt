use Rattle.std.proofs.Common.{◌≡◌, drop}
use Rattle.std.specs.List.{list_all}
use Rattle.zone_graph.specs.Rooms.{room_of}
use Rattle.route_choice.specs.Freshness.{has_room}
use Rattle.local_view.proofs.taker.have_room.Given as goal

-- the arcs so far have room
abbrev pub invariant-loop-arc : goal.invariant-loop-arc
invariant-loop-arc l = list_all (has_room (room_of l.rooms)) l.route ≡ list_all (has_room (room_of l.rooms)) (drop l.arc-index l.route)
