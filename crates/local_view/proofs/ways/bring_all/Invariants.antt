use Rattle.std.proofs.Common.{◌≤◌}
use Rattle.zone_graph.specs.Rooms.{room_of}
use Rattle.local_view.specs.Ways.{IsBringing}
use Rattle.local_view.proofs.ways.bring_all.Given as goal

-- the lots of the zones behind the first ways have come over the others
abbrev pub invariant-loop-place : goal.invariant-loop-place
invariant-loop-place l = record {
  behind : l.place ≤ l.count;
  bringing : IsBringing l.grid (room_of l.rooms) l.side l.fn.load l.load l.ways l.count l.loads l.place;
}

abbrev pub decreases-loop-place : goal.decreases-loop-place
decreases-loop-place l = l.place
