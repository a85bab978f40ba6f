use Rattle.std.proofs.Common.{◌≡◌}
use Rattle.plain_refusals.specs.Asked.{first_refusal, refusal_by}
use Rattle.plain_refusals.proofs.Hours.{from_hour}
use Rattle.plain_refusals.proofs.capacity.first_refusal.Given as goal

-- the hours that are left answer as all do
abbrev pub invariant-loop-hour : goal.invariant-loop-hour
invariant-loop-hour l = from_hour (refusal_by l.rule l.events l.asked) l.asked l.hour ≡ first_refusal l.rule l.events l.asked
