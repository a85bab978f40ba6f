use Rattle.laws_of_hours.proofs.FlowChanges.{resumptions_fit}
use Rattle.laws_of_hours.proofs.flows.resumptions_fit_the_flows.Goals as goal

pub returns : goal.returns
returns c = resumptions_fit
