use Rattle.journal_audit.proofs.Orders.{complete-in-order}
use Rattle.journal_audit.proofs.laws.complete_journals_are_in_order.Goals as goal

pub returns : goal.returns
returns c = complete-in-order
