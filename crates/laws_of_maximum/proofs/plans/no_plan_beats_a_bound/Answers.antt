use Rattle.laws_of_maximum.proofs.Duality.{no_plan_beats_bound}
use Rattle.laws_of_maximum.proofs.plans.no_plan_beats_a_bound.Goals as goal

pub returns : goal.returns
returns c = no_plan_beats_bound
