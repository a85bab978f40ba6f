use Rattle.laws_of_market.proofs.OfHours.{take_alone}
use Rattle.laws_of_market.proofs.hour_lists.takings_stand_alone.Goals as goal

pub returns : goal.returns
returns c = take_alone
