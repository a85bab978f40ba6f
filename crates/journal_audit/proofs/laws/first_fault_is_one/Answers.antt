use Rattle.journal_audit.proofs.Orders.{first-fault-one}
use Rattle.journal_audit.proofs.laws.first_fault_is_one.Goals as goal

pub returns : goal.returns
returns c = first-fault-one
