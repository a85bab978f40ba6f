use Rattle.zone_graph.specs.Pour.{same_arc}
use Rattle.flow_netting.specs.QuarterSet.{has}
use Rattle.laws_of_hours.specs.Standing.{IsCarried}
use Rattle.hour_store.proofs.InTurn.{below_in}
use Rattle.hour_store.proofs.flows.grant_in.Given as goal

-- the lots flow in the quarters of the set so far
abbrev pub invariant-loop-number : goal.invariant-loop-number
invariant-loop-number l = IsCarried (same_arc l.arc) (below_in (has l.set) l.number) l.lots l.fn.flows l.flows
