use Rattle.std.proofs.Common.{sym}
use Rattle.journal_audit.proofs.LineTexts.{first-ended, first-unended}
use Rattle.journal_audit.proofs.lines.first_line.Goals as goal

pub returns-in-Some-clause-lines : goal.returns-in-Some-clause-lines
returns-in-Some-clause-lines c =
    rw (c.split_at.ensures.front, c.split_at.ensures.back) (first-ended c.args.text.now c.in-Some.place (sym c.in-Some.ensures.place))

pub returns-in-None-clause-lines : goal.returns-in-None-clause-lines
returns-in-None-clause-lines c =
    rw (c.split_at-in-None.ensures.front, c.split_at-in-None.ensures.back) (first-unended c.args.text.now c.requires (sym c.in-None.ensures.place))
