use Rattle.laws_of_joint_commands.proofs.PeriodDeals.{match_reply}
use Rattle.laws_of_joint_commands.proofs.matching_blocks.matches_are_the_reply.Goals as goal

pub returns : goal.returns
returns c = match_reply
