use Rattle.journal_audit.proofs.Journals.{named-apart}
use Rattle.journal_audit.proofs.laws.sessions_are_named_apart.Goals as goal

pub returns : goal.returns
returns c = named-apart
