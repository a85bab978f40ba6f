use Rattle.std.proofs.Common.{length}
use Rattle.journal_audit.specs.Course.{IsCourse}
use Rattle.journal_audit.proofs.Audits.{IsAudited}
use Rattle.journal_audit.proofs.auditing.audit.Given as goal

-- the lines before the rest were right, and the course is theirs
abbrev pub invariant-loop-rest : goal.invariant-loop-rest
invariant-loop-rest l = record {
  course : IsCourse l.session l.course;
  audited : IsAudited l.session l.journal l.rest l.course.entries;
}

abbrev pub decreases-loop-rest : goal.decreases-loop-rest
decreases-loop-rest l = length l.rest
