use Rattle.laws_of_hours.proofs.Legs.{made}
use Rattle.laws_of_hours.proofs.orders.legs_are_made.Goals as goal

pub returns : goal.returns
returns c = made
