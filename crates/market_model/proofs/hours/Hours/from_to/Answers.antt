use Rattle.market_model.proofs.HourSets.{hours_between}
use Rattle.market_model.proofs.hours.Hours.from_to.Goals as goal

pub returns : goal.returns
returns c = hours_between c.args.first c.args.last c.requires.first c.requires.order c.requires.last
