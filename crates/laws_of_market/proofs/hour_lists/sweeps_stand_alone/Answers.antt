use Rattle.laws_of_market.proofs.OfHours.{sweep_alone}
use Rattle.laws_of_market.proofs.hour_lists.sweeps_stand_alone.Goals as goal

pub returns : goal.returns
returns c = sweep_alone
