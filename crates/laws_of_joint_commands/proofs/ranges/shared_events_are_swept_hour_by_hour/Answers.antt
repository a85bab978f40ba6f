use Rattle.laws_of_joint_commands.proofs.SharedEvents.{swept_shared}
use Rattle.laws_of_joint_commands.proofs.ranges.shared_events_are_swept_hour_by_hour.Goals as goal

pub returns : goal.returns
returns c = swept_shared
