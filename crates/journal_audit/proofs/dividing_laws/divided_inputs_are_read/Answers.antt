use Rattle.journal_audit.proofs.Answering.{divided-read}
use Rattle.journal_audit.proofs.dividing_laws.divided_inputs_are_read.Goals as goal

pub returns : goal.returns
returns c = divided-read
