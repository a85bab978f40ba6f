use Rattle.std.proofs.Common.{◌≡◌, ◌-◌, ◌<◌, not}
use Rattle.zone_graph.specs.Grid.{IsGrid, neighbours_of}
use Rattle.zone_graph.specs.Rooms.{room_of}
use Rattle.cut_proof.specs.Distance.{directed_room}
use Rattle.route_choice.proofs.FromSearch.{IsReadyFrom, IsVisitingFrom}
use Rattle.route_choice.specs.Search.{search_over}
use Rattle.route_choice.proofs.search.Branches.find_zones.Given as goal

-- the neighbours so far have been met
abbrev pub invariant-loop-neighbour : goal.invariant-loop-neighbour
invariant-loop-neighbour l = record {
  grid : IsGrid l.grid;
  low : l.visited < 64;
  visiting : IsVisitingFrom l.grid (directed_room (room_of l.rooms) (not l.towards)) l.fn.zone (search_over l.self l.queue) l.next l.visited l.distance l.neighbour-items l.neighbour-index;
  neighbours : l.neighbour-items ≡ neighbours_of l.grid l.visited;
}

-- the zones before the next one have been visited
abbrev pub invariant-loop-next : goal.invariant-loop-next
invariant-loop-next l = IsReadyFrom l.grid (directed_room (room_of l.rooms) (not l.towards)) l.fn.zone (search_over l.self l.queue) l.next

abbrev pub decreases-loop-next : goal.decreases-loop-next
decreases-loop-next l = 64 - l.next
