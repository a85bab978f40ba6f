use Rattle.market_model.specs.HourSet.{has_hour}
use Rattle.desk_market.proofs.Places.{IsSought}
use Rattle.desk_market.proofs.day.DayDesks.place_of.Given as goal

-- what is left to look through
abbrev pub invariant-loop-i : goal.invariant-loop-i
invariant-loop-i l = record {
  sought : IsSought (has_hour l.self.chosen) l.self.desks l.fn.place l.i l.before;
}
