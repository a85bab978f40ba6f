use Rattle.zone_graph.specs.Rooms.{room_of}
use Rattle.local_view.proofs.Joining.{AreSoFar}
use Rattle.local_view.proofs.nearness.joined_with.Given as goal

-- the neighbours so far are joined, where there is room
abbrev pub invariant-loop-neighbour : goal.invariant-loop-neighbour
invariant-loop-neighbour l = AreSoFar l.grid (room_of l.rooms) l.side l.zone l.neighbour-items l.neighbour-index l.joined
