use Rattle.laws_of_joint_commands.proofs.EnteredBlocks.{close_both}
use Rattle.laws_of_joint_commands.proofs.entering_blocks.entry_deals_close_both.Goals as goal

pub returns : goal.returns
returns c = close_both
