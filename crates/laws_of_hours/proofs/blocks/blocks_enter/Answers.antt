use Rattle.laws_of_hours.proofs.BlockEntries.{enters}
use Rattle.laws_of_hours.proofs.blocks.blocks_enter.Goals as goal

pub returns : goal.returns
returns c = enters
