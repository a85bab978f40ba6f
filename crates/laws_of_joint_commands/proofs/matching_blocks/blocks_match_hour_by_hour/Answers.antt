use Rattle.laws_of_joint_commands.proofs.PeriodDeals.{match_by_hour}
use Rattle.laws_of_joint_commands.proofs.matching_blocks.blocks_match_hour_by_hour.Goals as goal

pub returns : goal.returns
returns c = match_by_hour
