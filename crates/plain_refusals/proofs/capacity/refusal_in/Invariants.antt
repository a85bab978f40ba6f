use Rattle.std.proofs.Common.{◌≡◌, ◌≤◌}
use Rattle.plain_refusals.specs.Asked.{refusal_at}
use Rattle.market_model.specs.Asked.{first_in_hour, is_asked}
use Rattle.plain_refusals.proofs.Quarters.{from_number}
use Rattle.plain_refusals.proofs.capacity.refusal_in.Given as goal

-- the quarters that are left answer as all do
abbrev pub invariant-loop-number : goal.invariant-loop-number
invariant-loop-number l = record {
  first : 1 ≤ l.number;
  rest : from_number (refusal_at l.rule l.capacity l.asked) (is_asked l.asked) l.hour l.number ≡ first_in_hour (refusal_at l.rule l.capacity l.asked) l.asked l.hour;
}
