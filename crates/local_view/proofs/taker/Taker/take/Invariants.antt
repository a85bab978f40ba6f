use Rattle.std.proofs.Common.{◌≡◌}
use Rattle.zone_graph.specs.Rooms.{room_of}
use Rattle.local_view.specs.Takers.{IsWalking}
use Rattle.local_view.proofs.Takers.{IsTaken}
use Rattle.local_view.proofs.taker.Taker.take.Given as goal

-- what was taken so far are the first legs of the pour
abbrev pub invariant-loop-lots : goal.invariant-loop-lots
invariant-loop-lots l = record {
  walking : IsWalking l.grid l.self l.walk;
  side : l.self.side ≡ l.fn.self.side;
  zone : l.self.zone ≡ l.fn.self.zone;
  taken : IsTaken l.grid (room_of l.fn.walk.rooms) l.fn.self.side l.fn.self.zone l.other l.most (room_of l.walk.rooms) l.left;
}

abbrev pub decreases-loop-lots : goal.decreases-loop-lots
decreases-loop-lots l = l.left
