use Rattle.laws_of_market.proofs.OfHours.{stand_alone}
use Rattle.laws_of_market.proofs.hour_lists.lines_stand_alone.Goals as goal

pub returns : goal.returns
returns c = stand_alone
