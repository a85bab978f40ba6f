use Rattle.laws_of_market.proofs.FlowSums.{adds-up}
use Rattle.market_model.specs.Capacity.{allocated, offered}
use Rattle.zone_graph.specs.Pour.{opposite_arc}
use Rattle.laws_of_market.proofs.bounds.capacity_adds_up.Goals as goal

pub returns : goal.returns
returns c = λ events quarter arc. adds-up (offered events quarter arc) (allocated events quarter arc) (allocated events quarter (opposite_arc arc))
