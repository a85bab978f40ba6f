use Rattle.laws_of_market.proofs.OfHours.{blocks_alone}
use Rattle.laws_of_market.proofs.hour_lists.block_lines_stand_alone.Goals as goal

pub returns : goal.returns
returns c = blocks_alone
