use Rattle.session_journal.proofs.Once.{each-command-once}
use Rattle.session_journal.proofs.laws.each_command_once.Goals as goal

pub returns : goal.returns
returns c = each-command-once
