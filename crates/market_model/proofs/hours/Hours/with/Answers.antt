use Rattle.market_model.proofs.HourSets.{hour_added}
use Rattle.market_model.proofs.hours.Hours.with.Goals as goal

pub returns : goal.returns
returns c = λ other. hour_added c.args.self.0 c.args.hour other c.requires.first c.requires.last
