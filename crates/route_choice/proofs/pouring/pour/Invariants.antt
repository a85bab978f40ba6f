use Rattle.std.proofs.Common.{◌≡◌, length}
use Rattle.zone_graph.specs.Graph.{border_count}
use Rattle.zone_graph.specs.Rooms.{room_of}
use Rattle.cut_proof.specs.Carrying.{FitTogether}
use Rattle.route_choice.proofs.Pours.{IsPoured}
use Rattle.route_choice.proofs.pouring.pour.Given as goal

-- the legs so far are the first of the pour, and the rooms are those after them
abbrev pub invariant-loop-legs : goal.invariant-loop-legs
invariant-loop-legs l = record {
  size : length l.rooms ≡ border_count l.grid;
  fit : FitTogether l.grid (room_of l.rooms);
  poured : IsPoured l.grid (room_of l.fn.rooms) l.from l.to l.most (room_of l.rooms) l.left l.legs;
}

abbrev pub decreases-loop-legs : goal.decreases-loop-legs
decreases-loop-legs l = l.left
