use Rattle.market_model.specs.WellFormed.{IsLegalOver}
use Rattle.plain_orders.specs.DaySums.{AreDaySums}
use Rattle.plain_matching.proofs.Hours.{IsSwept}
use Rattle.plain_matching.proofs.sweeping.sweeps.Given as goal

-- the hours before this one are swept, the history is legal, and the sums that are kept are of its events
abbrev pub invariant-loop-hour : goal.invariant-loop-hour
invariant-loop-hour l = record {
  swept : IsSwept l.grid l.first l.last l.hour l.initial.events l.events;
  legal : IsLegalOver l.grid l.events;
  summed : AreDaySums l.events l.kept;
}
