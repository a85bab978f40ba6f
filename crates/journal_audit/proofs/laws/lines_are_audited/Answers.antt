use Rattle.journal_audit.proofs.Orders.{lines-audited}
use Rattle.journal_audit.proofs.laws.lines_are_audited.Goals as goal

pub returns : goal.returns
returns c = lines-audited
