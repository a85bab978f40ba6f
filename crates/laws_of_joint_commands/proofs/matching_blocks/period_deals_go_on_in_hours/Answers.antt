use Rattle.laws_of_joint_commands.proofs.PeriodDeals.{deals_go_on}
use Rattle.laws_of_joint_commands.proofs.matching_blocks.period_deals_go_on_in_hours.Goals as goal

pub returns : goal.returns
returns c = deals_go_on
