use denote.Param.Send.{sendable}
use Rattle.std.proofs.Crossing.{crosses}
use Rattle.desk_locks.proofs.Crosses.{row_sync}
use Rattle.tests_of_locks.proofs.desk_tests.hours_have_locks_of_their_own.Goals as goal

-- the row may be shared by threads
pub join-outer-requires-send-F : goal.join-outer-requires-send-F
join-outer-requires-send-F g c κs within = search (row_sync, crosses, sendable) depth 60
