use Rattle.laws_of_boards.proofs.Stays.{block_legs-quiet}
use Rattle.laws_of_boards.proofs.quiet.block_legs_stay_quiet.Goals as goal

pub returns : goal.returns
returns c = block_legs-quiet
