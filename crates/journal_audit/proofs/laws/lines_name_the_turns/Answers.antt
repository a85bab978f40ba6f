use Rattle.journal_audit.proofs.Journals.{lines-name}
use Rattle.journal_audit.proofs.laws.lines_name_the_turns.Goals as goal

pub returns : goal.returns
returns c = lines-name
