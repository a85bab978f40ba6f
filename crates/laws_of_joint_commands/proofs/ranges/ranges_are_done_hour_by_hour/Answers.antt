use Rattle.laws_of_joint_commands.proofs.SharedEvents.{done_ranges}
use Rattle.laws_of_joint_commands.proofs.ranges.ranges_are_done_hour_by_hour.Goals as goal

pub returns : goal.returns
returns c = done_ranges
