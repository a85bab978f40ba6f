use Rattle.laws_of_joint_commands.proofs.BasketHours.{enter_by_hour}
use Rattle.laws_of_joint_commands.proofs.baskets.orders_enter_hour_by_hour.Goals as goal

pub returns : goal.returns
returns c = enter_by_hour
