use Rattle.laws_of_maximum.proofs.BestPlans.{obtain-most}
use Rattle.laws_of_maximum.proofs.takings.takings_obtain_the_most.Goals as goal

pub returns : goal.returns
returns c = obtain-most
