use Rattle.quarter_capacity.proofs.CapacityLemmas.{offers_keep_the_flow}
use Rattle.quarter_capacity.proofs.laws.offers_keep_the_flow.Goals as goal

pub returns : goal.returns
returns c = offers_keep_the_flow
