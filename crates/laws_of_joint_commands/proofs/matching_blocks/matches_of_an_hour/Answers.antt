use Rattle.laws_of_joint_commands.proofs.PeriodDeals.{match_of_hour}
use Rattle.laws_of_joint_commands.proofs.matching_blocks.matches_of_an_hour.Goals as goal

pub returns : goal.returns
returns c = match_of_hour
