use Rattle.std.proofs.Common.{◌≡◌, drop, find}
use Rattle.zone_graph.specs.Rooms.{room_of}
use Rattle.cut_proof.specs.Distance.{arcs_of_distance}
use Rattle.route_choice.specs.Search.{leads_nearer}
use Rattle.route_choice.proofs.search.first_nearer.Given as goal

-- none of the neighbours so far is one
abbrev pub invariant-loop-neighbour : goal.invariant-loop-neighbour
invariant-loop-neighbour l =
    find (leads_nearer (room_of l.rooms) l.distances (arcs_of_distance l.far)) l.neighbours ≡ find (leads_nearer (room_of l.rooms) l.distances (arcs_of_distance l.far)) (drop l.neighbour-index l.neighbours)
