use Rattle.std.proofs.Common.{◌≡◌, length}
use Rattle.flow_netting.specs.Flows.{border_count}
use Rattle.tests_of_types.proofs.capacity_tests.take_all.Given as goal

-- the flows are those of one border, and so are the rooms
abbrev pub invariant-loop-step : goal.invariant-loop-step
invariant-loop-step g l = record { flows : border_count l.flows ≡ 1; rooms : length l.rooms ≡ 1 }
