use Rattle.laws_of_joint_commands.proofs.SharedEvents.{touch_ranges}
use Rattle.laws_of_joint_commands.proofs.ranges.ranges_touch_their_hours.Goals as goal

pub returns : goal.returns
returns c = touch_ranges
