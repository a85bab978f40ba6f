use Rattle.std.proofs.Common.{◌≡◌, drop}
use Rattle.zone_graph.specs.Rooms.{room_of}
use Rattle.desk_entering.specs.Opening.{any_opens}
use Rattle.desk_entering.proofs.opening.any_opens.Given as goal

-- none of the events so far opens an arc
abbrev pub invariant-loop-event : goal.invariant-loop-event
invariant-loop-event l = any_opens (room_of l.rooms) l.events ≡ any_opens (room_of l.rooms) (drop l.event-index l.events)
