use Rattle.std.proofs.Common.{◌≤◌}
use Rattle.market_model.specs.HourSet.{has_hour}
use Rattle.desk_market.proofs.Places.{IsCounted}
use Rattle.desk_market.proofs.day.DayDesksDesks.len.Given as goal

-- how many are counted
abbrev pub invariant-loop-i : goal.invariant-loop-i
invariant-loop-i l = record {
  counted : IsCounted (has_hour l.self.chosen) l.self.desks l.i l.count;
  few : l.count ≤ l.i;
}
