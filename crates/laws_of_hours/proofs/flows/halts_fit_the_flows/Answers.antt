use Rattle.laws_of_hours.proofs.FlowChanges.{halts_fit}
use Rattle.laws_of_hours.proofs.flows.halts_fit_the_flows.Goals as goal

pub returns : goal.returns
returns c = halts_fit
