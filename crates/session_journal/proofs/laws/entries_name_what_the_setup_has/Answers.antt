use Rattle.session_journal.proofs.Named.{entries-name-the-setup}
use Rattle.session_journal.proofs.laws.entries_name_what_the_setup_has.Goals as goal

pub returns : goal.returns
returns c = entries-name-the-setup
