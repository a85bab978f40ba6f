use Rattle.std.proofs.Common.{◌<◌, length}
use Rattle.order_pool.specs.Pool.{IsSound}
use Rattle.tests_of_stores.proofs.pool_tests.fill_up.Given as goal

abbrev pub invariant-loop-item : goal.invariant-loop-item
invariant-loop-item g l = record { lines : 0 < length l.pool.lines; sound : IsSound l.pool }
