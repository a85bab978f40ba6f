use Rattle.std.proofs.Common.{◌≤◌, length}
use Rattle.session_io.specs.Writing.{Wrote}
use Rattle.session_io.proofs.writing.write_lines.Given as goal

-- what stands before the rest was written
abbrev pub invariant-loop-rest : goal.invariant-loop-rest
invariant-loop-rest g l = record {
  wrote : Wrote (g.K.Sink.written l.initial.sink) (g.K.Sink.written l.sink) l.text l.rest;
  count : g.K.Sink.faults l.initial.sink ≤ g.K.Sink.faults l.sink;
}

abbrev pub decreases-loop-rest : goal.decreases-loop-rest
decreases-loop-rest g l = length l.rest
