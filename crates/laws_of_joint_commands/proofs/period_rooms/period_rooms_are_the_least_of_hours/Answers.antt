use Rattle.laws_of_joint_commands.proofs.LeastRooms.{least_of_hours}
use Rattle.laws_of_joint_commands.proofs.period_rooms.period_rooms_are_the_least_of_hours.Goals as goal

pub returns : goal.returns
returns c = least_of_hours
