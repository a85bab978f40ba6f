use Rattle.laws_of_joint_commands.proofs.PeriodDeals.{next_go_on}
use Rattle.laws_of_joint_commands.proofs.matching_blocks.next_deals_go_on_in_hours.Goals as goal

pub returns : goal.returns
returns c = next_go_on
