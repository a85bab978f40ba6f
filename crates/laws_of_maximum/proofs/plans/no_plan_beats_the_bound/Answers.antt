use Rattle.laws_of_maximum.proofs.BestPlans.{no_plan_beats_it}
use Rattle.laws_of_maximum.proofs.plans.no_plan_beats_the_bound.Goals as goal

pub returns : goal.returns
returns c = no_plan_beats_it
