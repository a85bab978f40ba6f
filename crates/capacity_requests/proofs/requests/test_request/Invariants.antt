use Rattle.std.proofs.Common.{◌≡◌, ◌≤◌}
use Rattle.capacity_requests.specs.Requests.{first_room_below, room_below}
use Rattle.capacity_requests.proofs.Quarters.{from_number}
use Rattle.capacity_requests.proofs.requests.test_request.Given as goal

-- the quarters that are left answer as all do
abbrev pub invariant-loop-number : goal.invariant-loop-number
invariant-loop-number l = record {
  first : 1 ≤ l.number;
  rest : from_number (room_below l.flows l.arc l.lots) l.set l.number ≡ first_room_below l.flows l.arc l.set l.lots;
}
