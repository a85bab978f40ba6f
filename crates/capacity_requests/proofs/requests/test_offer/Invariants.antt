use Rattle.std.proofs.Common.{◌≡◌, ◌≤◌}
use Rattle.capacity_requests.specs.Requests.{first_flow_above, flow_above}
use Rattle.capacity_requests.proofs.Quarters.{from_number}
use Rattle.capacity_requests.proofs.requests.test_offer.Given as goal

-- the quarters that are left answer as all do
abbrev pub invariant-loop-number : goal.invariant-loop-number
invariant-loop-number l = record {
  first : 1 ≤ l.number;
  rest : from_number (flow_above l.flows l.arc l.lots) l.set l.number ≡ first_flow_above l.flows l.arc l.set l.lots;
}
