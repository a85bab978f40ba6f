use Rattle.laws_of_maximum.proofs.BlockFlows.{passed_over}
use Rattle.laws_of_maximum.proofs.blocks.blocks_are_passed_over_for_want_of_room.Goals as goal

pub returns : goal.returns
returns c = passed_over
