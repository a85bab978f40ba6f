use Rattle.std.proofs.Common.{◌≡◌, drop, length}
use Rattle.zone_graph.specs.Rooms.{room_of}
use Rattle.cut_proof.specs.Carrying.{CanCarry}
use Rattle.cut_proof.proofs.Carrying.{AreCarriedOn}
use Rattle.cut_proof.proofs.over_routes.carry.Given as goal

-- the arcs that are left can carry the lots, and then the rooms are those after all arcs have
abbrev pub invariant-loop-arc : goal.invariant-loop-arc
invariant-loop-arc l = record {
  size : length l.rooms ≡ length l.fn.rooms;
  can : CanCarry (length l.rooms) (room_of l.rooms) l.lots (drop l.arc-index l.route);
  onward : AreCarriedOn (room_of l.fn.rooms) (room_of l.rooms) l.lots l.route (drop l.arc-index l.route);
}
