use Rattle.laws_of_joint_commands.proofs.RefusedByHours.{closed_alone}
use Rattle.laws_of_joint_commands.proofs.state_refusals.hours_are_closed_by_themselves.Goals as goal

pub returns : goal.returns
returns c = closed_alone
