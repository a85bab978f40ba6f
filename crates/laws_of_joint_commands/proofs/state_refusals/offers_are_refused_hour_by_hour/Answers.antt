use Rattle.laws_of_joint_commands.proofs.RefusedByHours.{offers_alone}
use Rattle.laws_of_joint_commands.proofs.state_refusals.offers_are_refused_hour_by_hour.Goals as goal

pub returns : goal.returns
returns c = offers_alone
