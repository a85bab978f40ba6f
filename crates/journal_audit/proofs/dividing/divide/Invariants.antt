use Rattle.std.proofs.Common.{length}
use Rattle.journal_audit.proofs.Passing.{HasPassed}
use Rattle.journal_audit.proofs.dividing.divide.Given as goal

-- whole lines were passed, none of which is the word
abbrev pub invariant-loop-line : goal.invariant-loop-line
invariant-loop-line l = HasPassed l.word l.bytes l.start l.rest

-- each line is shorter than what was left before it
abbrev pub decreases-loop-line : goal.decreases-loop-line
decreases-loop-line l = length l.rest
