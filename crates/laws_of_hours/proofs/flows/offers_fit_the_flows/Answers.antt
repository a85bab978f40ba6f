use Rattle.laws_of_hours.proofs.FlowChanges.{offers_fit}
use Rattle.laws_of_hours.proofs.flows.offers_fit_the_flows.Goals as goal

pub returns : goal.returns
returns c = offers_fit
