use Rattle.std.proofs.Common.{◌<◌, ℕ}
use Rattle.zone_graph.specs.Rooms.{room_of}
use Rattle.local_view.specs.Cuts.{AreClosedOver, cut_by}
use Rattle.local_view.proofs.cuts.Cuts.are_closed.Given as goal

-- over the borders so far cuts are closed
abbrev pub invariant-loop-border : goal.invariant-loop-border
invariant-loop-border l = (border : ℕ) → border < l.border → AreClosedOver l.grid (room_of l.left) l.side (cut_by l.self) border
