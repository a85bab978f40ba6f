use Rattle.journal_audit.proofs.Journals.{journals-one}
use Rattle.journal_audit.proofs.laws.journals_are_one.Goals as goal

pub returns : goal.returns
returns c = journals-one
