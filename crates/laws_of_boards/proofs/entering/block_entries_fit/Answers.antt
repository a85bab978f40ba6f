use Rattle.laws_of_boards.proofs.Admitting.{blocks}
use Rattle.laws_of_boards.proofs.entering.block_entries_fit.Goals as goal

pub returns : goal.returns
returns c = blocks
