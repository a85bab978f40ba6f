use Rattle.laws_of_hours.proofs.Entries.{enters}
use Rattle.laws_of_hours.proofs.orders.orders_enter_in_hand.Goals as goal

pub returns : goal.returns
returns c = enters
