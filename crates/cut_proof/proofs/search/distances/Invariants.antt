use Rattle.std.proofs.Common.{◌≡◌, ◌-◌}
use Rattle.zone_graph.specs.Grid.{IsGrid, neighbours_of}
use Rattle.zone_graph.specs.Rooms.{room_of}
use Rattle.cut_proof.specs.Distance.{directed_room}
use Rattle.cut_proof.proofs.Searches.{IsReady, IsVisiting}
use Rattle.cut_proof.proofs.search.distances.Given as goal

-- the neighbours so far have been seen
abbrev pub invariant-loop-neighbour : goal.invariant-loop-neighbour
invariant-loop-neighbour l = record {
  grid : IsGrid l.grid;
  visiting : IsVisiting l.grid (directed_room (room_of l.rooms) l.towards) l.fn.zone l.search.distances l.search.zones l.search.count l.next l.visited l.distance l.neighbour-items l.neighbour-index;
  neighbours : l.neighbour-items ≡ neighbours_of l.grid l.visited;
}

-- the zones before the next one have been visited
abbrev pub invariant-loop-next : goal.invariant-loop-next
invariant-loop-next l = IsReady l.grid (directed_room (room_of l.rooms) l.towards) l.fn.zone l.search.distances l.search.zones l.search.count l.next

abbrev pub decreases-loop-next : goal.decreases-loop-next
decreases-loop-next l = 64 - l.next
