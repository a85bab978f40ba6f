use Rattle.std.proofs.Common.{◌≡◌, ◌-◌, ◌++◌, drop, flat_map, take}
use Rattle.joint_plan.specs.Works.{swept, with_part}
use Rattle.joint_plan.proofs.Lists.{changed-behind}
use Rattle.joint_plan.proofs.parts.plan_others.Given as goal

abbrev pub invariant-loop-i : goal.invariant-loop-i
invariant-loop-i g l = record {
  desks : g.D.Desks.desks l.row ≡ changed-behind (with_part l.work) (l.i - 1) (g.D.Desks.desks l.fn.row);
  made : l.made ≡ l.fn.first ++ flat_map (swept l.work) (take (l.i - 1) (drop 1 (g.D.Desks.desks l.fn.row)));
  rest : g.D.Desks.rest l.row ≡ g.D.Desks.rest l.fn.row;
}
