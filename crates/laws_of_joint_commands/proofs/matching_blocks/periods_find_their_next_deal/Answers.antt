use Rattle.laws_of_joint_commands.proofs.PeriodDeals.{find_next}
use Rattle.laws_of_joint_commands.proofs.matching_blocks.periods_find_their_next_deal.Goals as goal

pub returns : goal.returns
returns c = find_next
