use Rattle.journal_audit.proofs.Answering.{undivided-bad}
use Rattle.journal_audit.proofs.dividing_laws.undivided_inputs_are_bad.Goals as goal

pub returns : goal.returns
returns c = undivided-bad
