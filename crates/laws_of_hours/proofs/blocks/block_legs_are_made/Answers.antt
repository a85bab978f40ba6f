use Rattle.laws_of_hours.proofs.BlockLegs.{carried}
use Rattle.laws_of_hours.proofs.blocks.block_legs_are_made.Goals as goal

pub returns : goal.returns
returns c = carried
