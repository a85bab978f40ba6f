-- The flows and rooms of a quarter of flows that stand for a list of events.
use Rattle.laws_of_market.proofs.Rooms.{kept_quarter-is}
use Rattle.flow_netting.specs.Flows as kept
use Rattle.laws_of_hours.proofs.Rooms.{remains}
use Rattle.laws_of_hours.specs.Refusing.{QuarterFlowsAreTheMarkets, QuarterRoomsAreTheMarkets}

pub flows_are : QuarterFlowsAreTheMarkets
flows_are graph events hour flows arc is there = is.flow_same arc there

pub rooms_are : QuarterRoomsAreTheMarkets
rooms_are graph events hour flows arc is there =
    kept_quarter-is events hour arc flows.phase (kept.is_halted flows arc.border) (kept.remaining_of flows arc) is.phase_same (is.halted_same arc.border there)
    (remains graph events hour flows arc is there)
