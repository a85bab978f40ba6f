use Rattle.std.proofs.Common.{◌≡◌, ◌≤◌, ◌++◌, List, ℕ, length}
use Rattle.std.specs.Io.KnownBytes.{Appends}
use Rattle.tests_of_stores.proofs.end_tests.write_whole.Given as goal

-- the sink took what is no longer left of the piece, and its count of faults has not fallen
abbrev pub invariant-loop-rest : goal.invariant-loop-rest
invariant-loop-rest g l =
    ((front : List ℕ) × (l.initial.rest ≡ front ++ l.rest)
    × Appends (g.K.Sink.written l.initial.sink) (g.K.Sink.written l.sink) front)
    × (g.K.Sink.faults l.initial.sink ≤ g.K.Sink.faults l.sink)

abbrev pub decreases-loop-rest : goal.decreases-loop-rest
decreases-loop-rest g l = length l.rest
