use Rattle.std.proofs.Common.{◌≡◌, ◌≤◌, ◌++◌, List, ℕ}
use Rattle.std.specs.Io.KnownBytes.{Consumes}
use Rattle.tests_of_stores.proofs.end_tests.read_on.Given as goal

-- what came so far is what the source lost, and its count of faults has not fallen
abbrev pub invariant-loop : goal.invariant-loop
invariant-loop g l =
    ((more : List ℕ) × (l.bytes.items ≡ l.initial.bytes.items ++ more)
    × Consumes (g.S.Source.left l.initial.source) (g.S.Source.left l.source) more)
    × (g.S.Source.faults l.initial.source ≤ g.S.Source.faults l.source)
