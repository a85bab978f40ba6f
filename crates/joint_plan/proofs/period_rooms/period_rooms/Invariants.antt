use Rattle.std.proofs.Common.{take}
use Rattle.joint_plan.specs.Rooms.{AreRoomsOver}
use Rattle.joint_plan.proofs.period_rooms.period_rooms.Given as goal

abbrev pub invariant-loop-i : goal.invariant-loop-i
invariant-loop-i g l = AreRoomsOver l.grid (take l.i (g.D.Desks.desks l.row)) l.rooms
