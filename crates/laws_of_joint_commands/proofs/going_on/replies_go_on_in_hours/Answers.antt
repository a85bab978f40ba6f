use Rattle.laws_of_joint_commands.proofs.HoursGoOn.{replies}
use Rattle.laws_of_joint_commands.proofs.going_on.replies_go_on_in_hours.Goals as goal

pub returns : goal.returns
returns c = replies
