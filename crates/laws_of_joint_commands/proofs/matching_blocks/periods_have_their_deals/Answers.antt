use Rattle.laws_of_joint_commands.proofs.PeriodDeals.{have_deals}
use Rattle.laws_of_joint_commands.proofs.matching_blocks.periods_have_their_deals.Goals as goal

pub returns : goal.returns
returns c = have_deals
