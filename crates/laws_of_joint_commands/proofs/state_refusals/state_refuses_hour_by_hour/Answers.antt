use Rattle.laws_of_joint_commands.proofs.RefusedByHours.{state_alone}
use Rattle.laws_of_joint_commands.proofs.state_refusals.state_refuses_hour_by_hour.Goals as goal

pub returns : goal.returns
returns c = state_alone
