use Rattle.std.proofs.Common.{◌≡◌, ◌-◌, ◌++◌, drop, length}
use Rattle.joint_plan.proofs.parts.append_from.Given as goal

-- the events so far are there, but for those that are left out
abbrev pub invariant-loop-event : goal.invariant-loop-event
invariant-loop-event l = record {
  before : l.before ≡ l.place - length l.yielded;
  made : l.made ≡ l.initial.made ++ drop l.place l.yielded;
}
