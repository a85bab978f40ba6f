use Rattle.laws_of_hours.proofs.TakenOut.{withdrawn}
use Rattle.laws_of_hours.proofs.orders.withdrawals_are_made.Goals as goal

pub returns : goal.returns
returns c = withdrawn
