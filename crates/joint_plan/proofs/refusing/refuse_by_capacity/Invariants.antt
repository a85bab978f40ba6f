use Rattle.std.proofs.Common.{◌≡◌, drop}
use Rattle.hour_desk.specs.Ranges.{IsOnArc, part_refusal}
use Rattle.market_model.specs.Sweep.{first_answer}
use Rattle.joint_plan.specs.Refusing.{capacity_refusal}
use Rattle.joint_plan.proofs.refusing.refuse_by_capacity.Given as goal

abbrev pub invariant-loop-i : goal.invariant-loop-i
invariant-loop-i g l = record {
  arc : IsOnArc l.grid l.work;
  left : first_answer (part_refusal l.work) (drop l.i (g.D.Desks.desks l.row)) ≡ capacity_refusal l.grid l.command (g.D.Desks.desks l.row);
}
