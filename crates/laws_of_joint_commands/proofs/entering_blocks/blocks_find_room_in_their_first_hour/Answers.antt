use Rattle.laws_of_joint_commands.proofs.EnteredBlocks.{room_in_first}
use Rattle.laws_of_joint_commands.proofs.entering_blocks.blocks_find_room_in_their_first_hour.Goals as goal

pub returns : goal.returns
returns c = room_in_first
