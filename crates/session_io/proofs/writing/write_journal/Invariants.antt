use Rattle.std.proofs.Common.{◌≤◌, take}
use Rattle.std.specs.Io.KnownBytes.{Appends}
use Rattle.session_io.specs.JournalText.{journal_text}
use Rattle.session_io.proofs.writing.write_journal.Given as goal

-- the lines of the entries so far are written
abbrev pub invariant-loop-index : goal.invariant-loop-index
invariant-loop-index g l = record {
  written : Appends (g.K.Sink.written l.initial.sink) (g.K.Sink.written l.sink) (journal_text l.setup (take l.index l.entries));
  count : g.K.Sink.faults l.initial.sink ≤ g.K.Sink.faults l.sink;
}
