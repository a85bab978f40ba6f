use Rattle.laws_of_hours.proofs.Callable.{grants}
use Rattle.laws_of_hours.proofs.calls.grants_can_be_made.Goals as goal

pub returns : goal.returns
returns c = grants
