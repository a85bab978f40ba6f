use Rattle.laws_of_hours.proofs.Callable.{offers}
use Rattle.laws_of_hours.proofs.calls.offers_can_be_made.Goals as goal

pub returns : goal.returns
returns c = offers
