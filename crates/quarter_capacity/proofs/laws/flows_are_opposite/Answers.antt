use Rattle.quarter_capacity.proofs.CapacityLemmas.{flows_are_opposite}
use Rattle.quarter_capacity.proofs.laws.flows_are_opposite.Goals as goal

pub returns : goal.returns
returns c = flows_are_opposite
