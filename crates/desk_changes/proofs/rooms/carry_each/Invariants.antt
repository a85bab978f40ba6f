use Rattle.std.proofs.Common.{◌≡◌, drop, length}
use Rattle.zone_graph.specs.declared.route.Arc.{Arc}
use Rattle.zone_graph.specs.Rooms.{room_of}
use Rattle.route_choice.specs.Poured.{rooms_after}
use Rattle.desk_changes.specs.Rooms.{CanCarryEach}
use Rattle.desk_changes.proofs.rooms.carry_each.Given as goal

-- the other legs can be carried, and all are once they are
abbrev pub invariant-loop-leg : goal.invariant-loop-leg
invariant-loop-leg l = record {
  size : length l.rooms ≡ length l.fn.rooms;
  can : CanCarryEach (length l.rooms) (room_of l.rooms) (drop l.leg-index l.legs);
  rest : (arc : Arc) → rooms_after (room_of l.rooms) (drop l.leg-index l.legs) arc ≡ rooms_after (room_of l.fn.rooms) l.legs arc;
}
