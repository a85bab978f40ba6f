use Rattle.tests_of_venues.specs.Callers.{AreCallers}
use Rattle.tests_of_venues.proofs.setups.callers.Given as goal

abbrev pub invariant-loop : goal.invariant-loop
invariant-loop l = AreCallers l.callers l.counter l.room
