use Rattle.laws_of_joint_commands.proofs.EnteredBlocks.{enter_of_hour}
use Rattle.laws_of_joint_commands.proofs.entering_blocks.entries_of_an_hour.Goals as goal

pub returns : goal.returns
returns c = enter_of_hour
