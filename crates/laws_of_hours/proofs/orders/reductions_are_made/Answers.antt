use Rattle.laws_of_hours.proofs.Reduced.{is_reduced}
use Rattle.laws_of_hours.proofs.orders.reductions_are_made.Goals as goal

pub returns : goal.returns
returns c = is_reduced
