use Rattle.laws_of_joint_commands.proofs.BasketHours.{done_by_hour}
use Rattle.laws_of_joint_commands.proofs.baskets.baskets_are_done_hour_by_hour.Goals as goal

pub returns : goal.returns
returns c = done_by_hour
