use Rattle.zone_graph.specs.Rooms.{room_of}
use Rattle.local_view.proofs.Changed.{AreFound}
use Rattle.local_view.proofs.still_standing.find_changed.Given as goal

-- of the borders so far those are listed that changed
abbrev pub invariant-loop-border : goal.invariant-loop-border
invariant-loop-border l = AreFound (room_of l.old) (room_of l.new) l.border l.changed.items
