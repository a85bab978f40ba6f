use Rattle.laws_of_joint_commands.proofs.SweptHours.{of_an_hour}
use Rattle.laws_of_joint_commands.proofs.sweeps.sweeps_of_an_hour.Goals as goal

pub returns : goal.returns
returns c = of_an_hour
