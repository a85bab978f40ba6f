use Rattle.std.proofs.Common.{◌≡◌, length}
use Rattle.tests_of_types.proofs.graph_tests.names_of.Given as goal

-- a zone for each name so far
abbrev pub invariant-loop-name : goal.invariant-loop-name
invariant-loop-name g l = length l.zones ≡ l.name-index
