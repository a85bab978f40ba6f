use Rattle.market_model.specs.Sweep.{sweep_leg}
use Rattle.plain_matching.proofs.sweeping.sweep_leg.Goals as goal

pub returns-clause-leg : goal.returns-clause-leg
unfolding sweep_leg
returns-clause-leg c = c.in_ok-leg.ensures.leg
