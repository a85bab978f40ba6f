use Rattle.laws_of_hours.proofs.BlockLegs.{closed_gone}
use Rattle.laws_of_hours.proofs.blocks.closed_blocks_are_gone.Goals as goal

pub returns : goal.returns
returns c = closed_gone
