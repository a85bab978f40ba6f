use Rattle.route_choice.proofs.Flows.{no_flow_more}
use Rattle.route_choice.proofs.laws.no_flow_carries_more.Goals as goal

pub returns : goal.returns
returns c = no_flow_more
