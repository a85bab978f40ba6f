use Rattle.std.proofs.Common.{◌≡◌}
use Rattle.hour_desk.specs.Desk.{carried}
use Rattle.joint_plan.proofs.Lists.{changed}
use Rattle.joint_plan.proofs.undoing.carry_all.Given as goal

abbrev pub invariant-loop-i : goal.invariant-loop-i
invariant-loop-i g l = record {
  desks : g.D.Desks.desks l.row ≡ changed carried l.i (g.D.Desks.desks l.fn.row);
  rest : g.D.Desks.rest l.row ≡ g.D.Desks.rest l.fn.row;
}
