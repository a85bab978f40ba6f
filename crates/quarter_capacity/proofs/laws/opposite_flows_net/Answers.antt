use Rattle.quarter_capacity.proofs.CapacityLemmas.{opposite_flows_net}
use Rattle.quarter_capacity.proofs.laws.opposite_flows_net.Goals as goal

pub returns : goal.returns
returns c = opposite_flows_net
