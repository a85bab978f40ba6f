use Rattle.joint_plan.proofs.Lists.{appended-next}
use Rattle.joint_plan.proofs.parts.append_from.Goals as goal

pub loop-event-preserved : goal.loop-event-preserved
loop-event-preserved c =
    let next = appended-next c.args.made.now c.loop-event.made c.put_behind.new.made c.loop-event.yielded c.in-Some.event c.args.place c.loop-event.before c.in_ok-before.before
    c.loop-event.invariant.before c.loop-event.invariant.made c.in_ok-before.ensures.left c.in_ok-before.ensures.left_out c.in_ok-before.ensures.put in
    record { before = next.0; made = next.1 }
