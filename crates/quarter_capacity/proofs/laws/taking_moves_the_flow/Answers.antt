use Rattle.quarter_capacity.proofs.CapacityLemmas.{taking_moves_the_flow}
use Rattle.quarter_capacity.proofs.laws.taking_moves_the_flow.Goals as goal

pub returns : goal.returns
returns c = taking_moves_the_flow
