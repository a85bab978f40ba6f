use Rattle.laws_of_joint_commands.proofs.RefusedByHours.{requests_alone}
use Rattle.laws_of_joint_commands.proofs.state_refusals.requests_are_refused_hour_by_hour.Goals as goal

pub returns : goal.returns
returns c = requests_alone
