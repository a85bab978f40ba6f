use Rattle.std.proofs.Common.{sym, arith}
use Rattle.market_model.proofs.HourSets.{none_above, none_below}
use Rattle.market_model.proofs.hours.Hours.contains.Goals as goal
use Rattle.market_model.proofs.hours.Hours.contains.Goals.{then-hour-lt1-via-then-hour-lt1, then-hour-lt1-via-else-hour-lt1+then-hour-gt-GREATEST}

pub returns-then-hour-lt1 : goal.returns-then-hour-lt1
returns-then-hour-lt1 c = elim c.then-hour-lt1.branch [
  | then-hour-lt1-via-then-hour-lt1 w ↦ sym (none_below c.args.self.0 c.args.hour (omega arith))
  | then-hour-lt1-via-else-hour-lt1+then-hour-gt-GREATEST w ↦ sym (none_above c.args.self.0 c.args.hour (omega arith) (omega arith))
]
