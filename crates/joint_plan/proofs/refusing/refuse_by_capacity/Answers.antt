use Rattle.std.proofs.Common.{◌∙◌, None, Some, sym}
use Rattle.hour_desk.specs.Ranges.{part_refusal}
use Rattle.joint_plan.proofs.Lists.{IsIn-get, answer-from}
use Rattle.joint_plan.proofs.refusing.refuse_by_capacity.Goals as goal

pub refuse_part-requires-clause-unplanned : goal.refuse_part-requires-clause-unplanned
refuse_part-requires-clause-unplanned g c =
    c.requires.unplanned c.desk.result.now (IsIn-get (g.D.Desks.desks c.args.row.now) c.loop-i.i c.desk.result.now c.desk.ensures)

pub refuse_part-requires-clause-arc : goal.refuse_part-requires-clause-arc
refuse_part-requires-clause-arc g c =
    rw (c.requires.over c.desk.result.now (IsIn-get (g.D.Desks.desks c.args.row.now) c.loop-i.i c.desk.result.now c.desk.ensures)) c.loop-i.invariant.arc

pub returns-in-Some : goal.returns-in-Some
returns-in-Some g c =
    sym (answer-from (part_refusal _) (g.D.Desks.desks c.args.row.now) c.loop-i.i c.desk.result.now (Some c.in-Some.refusal) c.desk.ensures (sym c.in-Some.ensures))
    ∙ c.loop-i.invariant.left

pub loop-i-preserved : goal.loop-i-preserved
loop-i-preserved g c = record {
  arc = c.loop-i.invariant.arc;
  left = sym (answer-from (part_refusal _) (g.D.Desks.desks c.args.row.now) c.loop-i.i c.desk.result.now None c.desk.ensures (sym c.in_default.ensures))
      ∙ c.loop-i.invariant.left;
}
