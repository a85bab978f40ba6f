use Rattle.journal_audit.proofs.Journals.{journals-complete}
use Rattle.journal_audit.proofs.laws.journals_are_complete.Goals as goal

pub returns : goal.returns
returns c = journals-complete
