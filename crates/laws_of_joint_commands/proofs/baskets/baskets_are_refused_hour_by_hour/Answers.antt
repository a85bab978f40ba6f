use Rattle.laws_of_joint_commands.proofs.BasketHours.{refused_by_hour}
use Rattle.laws_of_joint_commands.proofs.baskets.baskets_are_refused_hour_by_hour.Goals as goal

pub returns : goal.returns
returns c = refused_by_hour
