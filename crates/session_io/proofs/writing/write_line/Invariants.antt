use Rattle.std.proofs.Common.{◌≤◌, length}
use Rattle.session_io.specs.Writing.{Wrote}
use Rattle.session_io.proofs.writing.write_line.Given as goal

-- the front of the line was written
abbrev pub invariant-loop-rest : goal.invariant-loop-rest
invariant-loop-rest g l =
    let sink = g.K.Sink in
    Wrote (sink.written l.initial.sink) (sink.written l.sink) l.line l.rest
    × (sink.faults l.initial.sink ≤ sink.faults l.sink)

abbrev pub decreases-loop-rest : goal.decreases-loop-rest
decreases-loop-rest g l = length l.rest
