use Rattle.std.proofs.Common.{ℕ, List}
use Rattle.zone_graph.specs.Rooms.{room_of}
use Rattle.local_view.specs.Ways.{IsSpread}
use Rattle.local_view.proofs.Spreading.{AreSpread}
use Rattle.local_view.proofs.ways.spread.Given as goal

-- all comes to each zone that was found so far
abbrev pub invariant-loop-place : goal.invariant-loop-place
invariant-loop-place l = (shown : List ℕ) → IsSpread l.grid (room_of l.rooms) l.side shown l.ways l.count l.loads l.all 0 l.root
    → AreSpread l.grid (room_of l.rooms) l.side shown l.ways l.count l.loads l.all l.place l.whole
