use Rattle.trader_pass.specs.Passes.{IsOf}
use Rattle.tests_of_locks.proofs.pass_tests.take_turns.Given as goal

abbrev pub invariant-loop-turn : goal.invariant-loop-turn
invariant-loop-turn g l = record { pass : IsOf l.front l.pass }
