use Rattle.laws_of_joint_commands.proofs.SweptHours.{by_hour}
use Rattle.laws_of_joint_commands.proofs.sweeps.sweeps_are_hour_by_hour.Goals as goal

pub returns : goal.returns
returns c = by_hour
