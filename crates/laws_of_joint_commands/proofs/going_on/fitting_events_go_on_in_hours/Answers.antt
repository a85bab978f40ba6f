use Rattle.laws_of_joint_commands.proofs.HoursGoOn.{fitting}
use Rattle.laws_of_joint_commands.proofs.going_on.fitting_events_go_on_in_hours.Goals as goal

pub returns : goal.returns
returns c = fitting
