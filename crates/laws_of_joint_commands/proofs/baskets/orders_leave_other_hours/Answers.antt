use Rattle.laws_of_joint_commands.proofs.BasketHours.{leave_others}
use Rattle.laws_of_joint_commands.proofs.baskets.orders_leave_other_hours.Goals as goal

pub returns : goal.returns
returns c = leave_others
