use Rattle.order_pool.specs.Lines.{StandsIn}
use Rattle.tests_of_stores.proofs.pool_tests.nth_place.Given as goal

-- the place stands in the line
abbrev pub invariant-loop-passed : goal.invariant-loop-passed
invariant-loop-passed g l = StandsIn l.pool.lines l.line l.place
