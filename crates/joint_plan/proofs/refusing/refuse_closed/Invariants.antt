use Rattle.std.proofs.Common.{◌≡◌, drop, find}
use Rattle.joint_plan.specs.Refusing.{is_closed}
use Rattle.joint_plan.proofs.refusing.refuse_closed.Given as goal

abbrev pub invariant-loop-i : goal.invariant-loop-i
invariant-loop-i g l = find is_closed (drop l.i (g.D.Desks.desks l.row)) ≡ find is_closed (g.D.Desks.desks l.row)
