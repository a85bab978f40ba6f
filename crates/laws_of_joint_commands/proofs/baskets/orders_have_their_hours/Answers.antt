use Rattle.laws_of_joint_commands.proofs.BasketHours.{have_hours}
use Rattle.laws_of_joint_commands.proofs.baskets.orders_have_their_hours.Goals as goal

pub returns : goal.returns
returns c = have_hours
