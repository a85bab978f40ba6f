use Rattle.laws_of_joint_commands.proofs.EnteredBlocks.{go_on_in_hours}
use Rattle.laws_of_joint_commands.proofs.entering_blocks.entries_go_on_in_hours.Goals as goal

pub returns : goal.returns
returns c = go_on_in_hours
