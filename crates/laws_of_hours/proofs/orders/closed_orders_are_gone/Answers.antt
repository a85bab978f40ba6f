use Rattle.laws_of_hours.proofs.TakenOut.{gone}
use Rattle.laws_of_hours.proofs.orders.closed_orders_are_gone.Goals as goal

pub returns : goal.returns
returns c = gone
