use Rattle.std.proofs.Common.{◌≡◌}
use Rattle.hour_desk.specs.Desk.{with_nothing_planned}
use Rattle.joint_plan.proofs.Lists.{changed}
use Rattle.joint_plan.proofs.undoing.undo_all.Given as goal

abbrev pub invariant-loop-i : goal.invariant-loop-i
invariant-loop-i g l = record {
  desks : g.D.Desks.desks l.row ≡ changed with_nothing_planned l.i (g.D.Desks.desks l.fn.row);
  rest : g.D.Desks.rest l.row ≡ g.D.Desks.rest l.fn.row;
}
