use Rattle.std.proofs.Common.{◌≡◌, ◌*◌, ◌≤◌}
use Rattle.zone_graph.specs.Rooms.{room_of}
use Rattle.cut_proof.proofs.Bounds.{room_over}
use Rattle.cut_proof.proofs.bound.border_bound.Given as goal

abbrev pub invariant-loop-border : goal.invariant-loop-border
invariant-loop-border l = record {
  summed : l.sum ≡ room_over l.grid (room_of l.rooms) l.zones l.towards l.border;
  bounded : l.sum ≤ l.border * 4294967295;
}
