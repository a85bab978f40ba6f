use Rattle.std.proofs.Common.{◌≡◌, length}
use Rattle.session_journal.proofs.Turns.{CountsTurns}
use Rattle.journal_audit.specs.Course.{callers_of}
use Rattle.session_storing.proofs.left.counts_of.Given as goal

-- the entries so far are counted
abbrev pub invariant-loop-entry : goal.invariant-loop-entry
invariant-loop-entry l = record {
  size : length l.counts ≡ l.fn.callers;
  counted : CountsTurns l.counts (callers_of l.entries) l.entry-index;
}
