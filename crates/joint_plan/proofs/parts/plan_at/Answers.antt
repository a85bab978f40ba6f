use Rattle.joint_plan.proofs.parts.plan_at.Goals as goal

pub plan_part-requires-clause-grid : goal.plan_part-requires-clause-grid
plan_part-requires-clause-grid g c = (c.requires.can c.desk_mut.result.now c.desk_mut.ensures.value).over

pub plan_part-requires-clause-few : goal.plan_part-requires-clause-few
plan_part-requires-clause-few g c = (c.requires.can c.desk_mut.result.now c.desk_mut.ensures.value).numbers

pub plan_part-requires-clause-can : goal.plan_part-requires-clause-can
plan_part-requires-clause-can g c = (c.requires.can c.desk_mut.result.now c.desk_mut.ensures.value).can
