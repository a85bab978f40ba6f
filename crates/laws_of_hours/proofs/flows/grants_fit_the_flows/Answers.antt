use Rattle.laws_of_hours.proofs.FlowChanges.{grants_fit}
use Rattle.laws_of_hours.proofs.flows.grants_fit_the_flows.Goals as goal

pub returns : goal.returns
returns c = grants_fit
