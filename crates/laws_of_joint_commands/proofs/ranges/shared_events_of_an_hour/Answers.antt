use Rattle.laws_of_joint_commands.proofs.SharedEvents.{of_hour_shared}
use Rattle.laws_of_joint_commands.proofs.ranges.shared_events_of_an_hour.Goals as goal

pub returns : goal.returns
returns c = of_hour_shared
